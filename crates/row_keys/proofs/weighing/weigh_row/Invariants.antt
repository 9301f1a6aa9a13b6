use Rattle.std.proofs.Common.{drop}
use Rattle.row_keys.proofs.Weighed.{WeighedTo}
use Rattle.row_keys.proofs.WeighedCells.{weight_from}
use Rattle.row_keys.proofs.weighing.weigh_row.Given as goal

abbrev pub invariant-loop-place : goal.invariant-loop-place
invariant-loop-place l =
    WeighedTo (weight_from l.layouts l.columns l.index) l.sum
    (weight_from (drop l.place l.layouts) (drop l.place l.columns) l.index)
