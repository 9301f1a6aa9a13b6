use Rattle.std.proofs.Common.{ap, ◌∙◌}
use Rattle.values.specs.Rose.{kids_of}
use Rattle.values.specs.declared.schema.Schema.{Schema}
use Rattle.stream_writer.specs.Stream.{trees}
use Rattle.stream_writer.proofs.CodedRead.{coded-in}
use Rattle.stream_writer.proofs.table.write_coded.Goals as goal

pub write_messages-requires-clause-fits : goal.write_messages-requires-clause-fits
write_messages-requires-clause-fits g c =
    coded-in c.args.coded.now c.args.schema.now.fields.items (kids_of c.deref.result.now)
    (ap kids_of c.deref.ensures.value ∙ c.in_ok-layouts.ensures ∙ ap (λ (s : Schema). trees s.fields.items) c.schema.ensures) c.requires.table.columns c.requires.coded
