use Rattle.std.proofs.Common.{◌≡◌, drop}
use Rattle.std.specs.List.{list_any}
use Rattle.upkeep.specs.AlikeRows.{differ_in}
use Rattle.upkeep.proofs.alike.differs_in_tuple.Given as goal

abbrev pub invariant-loop-column : goal.invariant-loop-column
invariant-loop-column g l =
    list_any (differ_in (g.R.RowView.cells l.a) (g.R.RowView.cells l.b))
    (drop l.column-index l.columns)
    ≡ list_any (differ_in (g.R.RowView.cells l.a) (g.R.RowView.cells l.b)) l.columns
