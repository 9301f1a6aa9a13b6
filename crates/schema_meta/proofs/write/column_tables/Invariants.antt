use Rattle.std.proofs.Common.{◌≡◌, take}
use Rattle.flatbuf.specs.Built.{listed}
use Rattle.schema_meta.specs.SchemaTree.{column_tables}
use Rattle.schema_meta.proofs.write.column_tables.Given as goal

abbrev pub invariant-loop-j : goal.invariant-loop-j
invariant-loop-j l = listed l.tables ≡ column_tables l.coded 0 (take l.j l.fields)
