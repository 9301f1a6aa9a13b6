use Rattle.std.proofs.Common.{◌≡◌, ◌++◌}
use Rattle.std.specs.Prelude.{replicate}
use Rattle.values.specs.Datum.{null}
use Rattle.body_writer.specs.Slots.{cells_of}
use Rattle.body_writer.proofs.from_columns.encoded.push_nulls.Given as goal

abbrev pub invariant-loop : goal.invariant-loop
invariant-loop l = cells_of l.cells.items ≡ cells_of l.fn.cells.items ++ replicate l.counter null
