-- What is stored for rows in groups.
use Rattle.std.specs.Prelude.{◌≡◌, ◌<◌, List, [], Option, None, Some}
use Rattle.std.specs.Map.{lookup}
use Rattle.std.specs.BTreeMap.{is_at}
use Rattle.values.specs.Datum.{Datum}
use Rattle.values.specs.declared.key.Key.{Key}
use Rattle.group_state.specs.Keys.{tuple_cmp}
use Rattle.group_state.specs.GroupCounts.{GroupCounts}
use Rattle.group_state.specs.Grouped.{Grouped}
use Rattle.group_state.specs.declared.accumulated_columns.AccumulatedColumn.{AccumulatedColumn}
use Rattle.group_state.specs.Rows.{KeepsRows}
use Rattle.group_state.specs.Tuples.{members}

-- a tuple that no row has has no group, and each other has one of its rows
abbrev pub KeepsAt : List AccumulatedColumn → List (List Datum) → Option GroupCounts → Type 0
KeepsAt columns rows None = rows ≡ []
KeepsAt columns rows (Some g) = (0 < g.rows) × KeepsRows columns g rows

-- the group of a tuple, if it has one
abbrev pub group_at : List (List Key × GroupCounts) → List Key → Option GroupCounts
group_at groups t = lookup (is_at (tuple_cmp t)) groups

-- the group of a tuple is that of these rows
abbrev pub KeepsUnder : List AccumulatedColumn → List (List Key × GroupCounts) → List Key → List (List Datum) → Type 0
KeepsUnder columns groups t rows = KeepsAt columns rows (group_at groups t)

-- the groups are those of these rows
pub record Keeps (s : Grouped) (rows : List (List Datum)) : Type 0 where
  pub groups_are :
      (t : List Key) → KeepsAt s.columns (members s.keys t rows) (lookup (is_at (tuple_cmp t)) s.groups)
