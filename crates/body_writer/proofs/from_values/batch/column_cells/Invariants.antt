use Rattle.std.proofs.Common.{◌≡◌, ◌++◌, drop}
use Rattle.body_writer.specs.Slots.{cells_of}
use Rattle.body_writer.proofs.Rows.{column_at}
use Rattle.body_writer.proofs.from_values.batch.column_cells.Given as goal

abbrev pub invariant-loop-row : goal.invariant-loop-row
invariant-loop-row l = cells_of l.cells.items ++ column_at l.j (drop l.row-index l.rows) ≡ column_at l.j l.rows
