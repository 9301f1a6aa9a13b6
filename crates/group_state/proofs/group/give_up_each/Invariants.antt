use Rattle.std.proofs.Common.{List, ◌++◌}
use Rattle.values.specs.Datum.{Datum}
use Rattle.group_state.specs.Rows.{KeepsEach}
use Rattle.group_state.specs.declared.accumulated_columns.AccumulatedColumn.{AccumulatedColumn}
use Rattle.group_state.proofs.Halfway.{Halfway}
use Rattle.group_state.proofs.group.give_up_each.Given as goal

abbrev pub invariant-loop-i : goal.invariant-loop-i
invariant-loop-i l = (columns : List AccumulatedColumn) (rest moved : List (List Datum))
    → KeepsEach columns l.fn.tallies (moved ++ rest) → KeepsEach columns l.others moved
    → Halfway columns l.tallies l.i (rest) (moved ++ rest)
