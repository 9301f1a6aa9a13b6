-- What contracts see of groups.
use Rattle.std.specs.Prelude.{ℕ, List}
use Rattle.values.specs.declared.key.Key.{Key}
use Rattle.group_state.specs.GroupCounts.{GroupCounts}
use Rattle.group_state.specs.declared.accumulated_columns.AccumulatedColumn.{AccumulatedColumn}

-- the grouping columns, the accumulated columns, and the groups by their tuples
pub record Grouped : Type 0 where
  pub keys : List ℕ
  pub columns : List AccumulatedColumn
  pub groups : List (List Key × GroupCounts)
