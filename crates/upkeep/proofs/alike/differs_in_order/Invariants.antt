use Rattle.std.proofs.Common.{◌≡◌, drop}
use Rattle.std.specs.List.{list_any}
use Rattle.upkeep.specs.AlikeRows.{differ_in}
use Rattle.upkeep.proofs.alike.differs_in_order.Given as goal

abbrev pub invariant-loop-by : goal.invariant-loop-by
invariant-loop-by g l =
    list_any (λ by. differ_in (g.R.RowView.cells l.a) (g.R.RowView.cells l.b) by.column)
    (drop l.by-index l.order)
    ≡ list_any (λ by. differ_in (g.R.RowView.cells l.a) (g.R.RowView.cells l.b) by.column) l.order
