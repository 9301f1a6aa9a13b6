use Rattle.messages.proofs.MissingLemmas.{body-faultless, body-read}
use Rattle.messages.proofs.metadata.body_length.Goals as goal

pub returns-in-Ok-body_of : goal.returns-in-Ok-body_of
returns-in-Ok-body_of c = λ known m e.
    body-read known c.args.bytes.now m _ c.in-Ok.message c.in-Ok-body_of.length c.root.ensures c.in-Ok.ensures
    c.in-Ok-body_of.ensures.value e

pub returns-in-Err : goal.returns-in-Err
returns-in-Err c = λ known m e.
    absurd (body-faultless known c.args.bytes.now m _ c.in-Ok.message c.in-Err.field-0 c.root.ensures c.in-Ok.ensures
    c.in-Err.ensures.value e)
