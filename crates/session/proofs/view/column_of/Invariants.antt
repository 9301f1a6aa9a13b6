use Rattle.std.proofs.Common.{◌≡◌, map, take}
use Rattle.values.specs.CellViews.{viewed}
use Rattle.session.specs.LentRows.{lent_column}
use Rattle.session.proofs.view.column_of.Given as goal

abbrev pub invariant-loop-row : goal.invariant-loop-row
invariant-loop-row l = map viewed l.cells.items ≡ lent_column l.column (take l.row-index l.rows)
