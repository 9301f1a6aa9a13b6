use Rattle.std.proofs.Common.{◌≡◌, map, take}
use Rattle.group_state.specs.Cells.{fresh}
use Rattle.group_state.specs.declared.accumulated_columns.AccumulatedColumn.{AccumulatedColumn}
use Rattle.group_state.proofs.group.Group.new.Given as goal

abbrev pub invariant-loop-column : goal.invariant-loop-column
invariant-loop-column l =
    l.tallies.items ≡ map (λ (k : AccumulatedColumn). fresh k.form) (take l.column-index l.columns)
