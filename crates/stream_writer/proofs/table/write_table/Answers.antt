use Rattle.std.proofs.Common.{[], ap, ◌∙◌}
use Rattle.values.specs.Rose.{kids_of}
use Rattle.stream_writer.proofs.CodedRead.{coded-in}
use Rattle.stream_writer.proofs.StreamRead.{none-is-coded}
use Rattle.stream_writer.proofs.table.write_table.Goals as goal

pub write_messages-requires-clause-fits : goal.write_messages-requires-clause-fits
write_messages-requires-clause-fits g c =
    coded-in [] c.args.schema.now.fields.items (kids_of c.deref.result.now)
    (ap kids_of c.deref.ensures.value ∙ c.in_ok-layouts.ensures) c.requires.columns
    (none-is-coded c.args.schema.now.fields.items)
