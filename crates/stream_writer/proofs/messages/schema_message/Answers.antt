use Rattle.std.proofs.Common.{◌∙◌, ◌++◌, ap, List, [], ℕ}
use Rattle.stream_writer.specs.Stream.{message, schema_message}
use Rattle.stream_writer.proofs.messages.schema_message.Goals as goal

pub returns-clause-bytes : goal.returns-clause-bytes
unfolding schema_message
returns-clause-bytes c = c.in_ok-append_head.ensures
    ∙ ap (λ (before : List ℕ). before ++ message c.deref.result.now []) c.new-bytes.ensures.items
    ∙ ap (λ (metadata : List ℕ). message metadata []) (c.deref.ensures.value ∙ c.in_ok-metadata.ensures.bytes)
