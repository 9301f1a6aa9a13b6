use Rattle.std.proofs.Common.{◌≡◌, drop}
use Rattle.std.specs.List.{list_any}
use Rattle.upkeep.specs.AlikeRows.{differ_in}
use Rattle.upkeep.proofs.alike.differs_in_columns.Given as goal

abbrev pub invariant-loop-kept : goal.invariant-loop-kept
invariant-loop-kept g l =
    list_any (λ c. differ_in (g.R.RowView.cells l.a) (g.R.RowView.cells l.b) c.column)
    (drop l.kept-index l.columns)
    ≡ list_any (λ c. differ_in (g.R.RowView.cells l.a) (g.R.RowView.cells l.b) c.column) l.columns
