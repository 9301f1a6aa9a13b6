use Rattle.std.proofs.Common.{List, ◌∷◌}
use Rattle.values.specs.Datum.{Datum}
use Rattle.group_state.specs.Rows.{KeepsEach}
use Rattle.group_state.proofs.Halfway.{Halfway}
use Rattle.group_state.proofs.group.add_each.Given as goal

abbrev pub invariant-loop-i : goal.invariant-loop-i
invariant-loop-i g l = (rows : List (List Datum)) → KeepsEach l.columns l.fn.tallies rows
    → Halfway l.columns l.tallies l.i (g.R.RowView.cells l.row ∷ rows) rows
