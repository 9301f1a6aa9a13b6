use Rattle.std.proofs.Common.{◌++◌, ◌∙◌, ap}
use Rattle.stream_writer.specs.Stream.{message}
use Rattle.stream_writer.proofs.HeadAndBody.{behind-head}
use Rattle.stream_writer.proofs.messages.record_message.Goals as goal

pub returns-clause-bytes : goal.returns-clause-bytes
returns-clause-bytes c =
    let before = c.args.head.items in
    let body = c.args.body.bytes.items in
    c.in_ok-message.ensures
    ∙ behind-head before c.append_head.new.bytes.items c.deref.result.now body c.in_ok-append_head.ensures
    ∙ ap (λ metadata. before ++ message metadata body) (c.deref.ensures.value ∙ c.in_ok-metadata.ensures.bytes)
