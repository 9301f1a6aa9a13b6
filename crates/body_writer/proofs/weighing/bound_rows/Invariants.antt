use Rattle.std.proofs.Common.{◌≤◌, drop}
use Rattle.values.specs.Limits.{max_row_weight}
use Rattle.body_writer.proofs.BoundedRows.{Covers}
use Rattle.body_writer.proofs.weighing.bound_rows.Given as goal

abbrev pub invariant-loop-column : goal.invariant-loop-column
invariant-loop-column l = Covers l.sum (drop l.column-index l.columns) l.columns × (l.sum ≤ max_row_weight)
