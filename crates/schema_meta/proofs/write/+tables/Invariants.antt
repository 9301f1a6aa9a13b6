use Rattle.std.proofs.Common.{◌≡◌, ◌+◌, ◌*◌, take}
use Rattle.values.specs.Rose.{kids_of, rose_size, roses_size}
use Rattle.flatbuf.specs.Built.{listed}
use Rattle.schema_meta.specs.SchemaTree.{field_tables}
use Rattle.schema_meta.proofs.write.+tables.Given as goal

abbrev pub decreases-field_table : goal.decreases-field_table
decreases-field_table l = 2 * rose_size l.field.now

abbrev pub decreases-field_tables : goal.decreases-field_tables
decreases-field_tables l = 2 * roses_size (kids_of l.fields.now) + 1

abbrev pub invariant-field_tables-loop-field : goal.invariant-field_tables-loop-field
invariant-field_tables-loop-field l = listed l.tables ≡ field_tables (kids_of (take l.field-index l.fields))
