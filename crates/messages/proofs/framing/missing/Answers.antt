use Rattle.messages.proofs.MissingLemmas.{missing-some}
use Rattle.messages.proofs.framing.missing.Goals as goal

pub returns : goal.returns
returns c = λ known partial.
    rw c.saturating_sub.ensures
    (missing-some known c.args.bytes.now c.in-Some.size c.body_length.result partial c.in-Some.ensures.some
    c.in-Some.ensures.there c.in-Some.ensures.size (c.body_length.ensures known))
