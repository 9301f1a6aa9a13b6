-- A whole group moves: its rows are removed from groups, or added to them, all at once.
use Rattle.std.specs.Prelude.{◌≡◌, ◌+◌, ◌++◌, ◌<◌, ℕ, All, Bool, false, List, [], ◌∷◌, Option, count_by, length}
use Rattle.std.specs.BTreeMap.{is_at}
use Rattle.std.specs.List.{list_any}
use Rattle.values.specs.Datum.{Datum}
use Rattle.values.specs.declared.key.Key.{Key}
use Rattle.view_lang.specs.Limits.{max_appended_rows}
use Rattle.group_state.specs.GroupCounts.{GroupCounts}
use Rattle.group_state.specs.Grouped.{Grouped}
use Rattle.group_state.specs.Groups.{KeepsAt}
use Rattle.group_state.specs.Keys.{key_cmp, key_in, tuple_cmp}
use Rattle.group_state.specs.Rows.{KeepsRows}
use Rattle.group_state.specs.Tuples.{tuple_of}
use Rattle.group_state.specs.declared.accumulated_columns.AccumulatedColumn.{AccumulatedColumn}

-- Each test counts as many of all these rows as of those two lists together.
abbrev pub AreTogether : List (List Datum) → List (List Datum) → List (List Datum) → Type 0
AreTogether all some others = (p : List Datum → Bool) → count_by p all ≡ count_by p some + count_by p others

-- A group is that of some of all these rows, which have this tuple; the others are those.
pub record IsPartOf (keys : List ℕ) (columns : List AccumulatedColumn) (t : List Key) (g : GroupCounts)
    (all moved others : List (List Datum)) : Type 0 where
  pub together : AreTogether all moved others
  pub kept : KeepsRows columns g moved
  pub tuple : All (λ row. tuple_of keys row ≡ t) moved
  pub some : 0 < g.rows

-- A whole group can be added to a state: it is that of the others of some rows, and there are few of all these.
abbrev pub CanTakeIn : (List (List Datum) → Type 0) → Grouped → List Key → GroupCounts → Type 0
CanTakeIn keeps s t g =
    (all : List (List Datum)) × (moved : List (List Datum)) × (others : List (List Datum))
    × (keeps others × (IsPartOf s.keys s.columns t g all moved others × (length all < max_appended_rows)))

-- It was added: what was the state of the others is that of all.
abbrev pub TakesIn :
    (List (List Datum) → Type 0) → (List (List Datum) → Type 0) → Grouped → List Key → GroupCounts → Type 0
TakesIn was is s t g =
    (all moved others : List (List Datum)) → IsPartOf s.keys s.columns t g all moved others → was others → is all

-- A whole group can be removed from a state: it is that of all rows.
abbrev pub CanGiveUp : (List (List Datum) → Type 0) → Grouped → List Key → GroupCounts → Type 0
CanGiveUp keeps s t g =
    (all : List (List Datum)) × (moved : List (List Datum)) × (others : List (List Datum))
    × (keeps all × IsPartOf s.keys s.columns t g all moved others)

-- It was removed: what was the state of all is that of the others.
abbrev pub GivesUp :
    (List (List Datum) → Type 0) → (List (List Datum) → Type 0) → Grouped → List Key → GroupCounts → Type 0
GivesUp was is s t g =
    (all moved others : List (List Datum)) → IsPartOf s.keys s.columns t g all moved others → was all → is others

-- The state of more rows can be added to that of some, with the same columns: there are few of both together.
abbrev pub CanAdd :
    (List AccumulatedColumn → List (List Datum) → Type 0) → (List AccumulatedColumn → List (List Datum) → Type 0)
    → Type 0
CanAdd was more =
    (columns : List AccumulatedColumn) × (rest : List (List Datum)) × (moved : List (List Datum))
    × (was columns rest × (more columns moved × (length rest + length moved < max_appended_rows)))

-- It was added.
abbrev pub Adds :
    (List AccumulatedColumn → List (List Datum) → Type 0) → (List AccumulatedColumn → List (List Datum) → Type 0)
    → (List AccumulatedColumn → List (List Datum) → Type 0) → Type 0
Adds was more is =
    (columns : List AccumulatedColumn) (rest moved : List (List Datum)) → was columns rest → more columns moved
    → is columns (moved ++ rest)

-- The same at the tuple of one of these groups.
abbrev pub CanAddAt : List AccumulatedColumn → Option GroupCounts → GroupCounts → Type 0
CanAddAt columns was g =
    (rest : List (List Datum)) × (moved : List (List Datum))
    × (KeepsAt columns rest was × (KeepsRows columns g moved × (length rest + length moved < max_appended_rows)))

abbrev pub AddsAt : List AccumulatedColumn → Option GroupCounts → GroupCounts → Option GroupCounts → Type 0
AddsAt columns was g is =
    (rest moved : List (List Datum)) → 0 < g.rows → KeepsRows columns g moved → KeepsAt columns rest was
    → KeepsAt columns (moved ++ rest) is

-- The rows of a group can be removed at a tuple.
abbrev pub CanRemoveAt : Option GroupCounts → GroupCounts → Type 0
CanRemoveAt was g =
    (columns : List AccumulatedColumn) × (rest : List (List Datum)) × (moved : List (List Datum))
    × (KeepsAt columns (moved ++ rest) was × KeepsRows columns g moved)

-- They were.
abbrev pub RemovesAt : Option GroupCounts → GroupCounts → Option GroupCounts → Type 0
RemovesAt was g is =
    (columns : List AccumulatedColumn) (rest moved : List (List Datum)) → KeepsRows columns g moved
    → KeepsAt columns (moved ++ rest) was → KeepsAt columns rest is

-- whether a tuple is one of these
abbrev pub is_tuple_among : List Key → List (List Key) → Bool
is_tuple_among t ts = list_any (is_at (tuple_cmp t)) ts

-- whether a tuple begins with a key
abbrev pub begins_with : Key → List Key → Bool
begins_with k [] = false
begins_with k (a ∷ t) = is_at (key_cmp k) a

-- whether a tuple begins with the key of one of these values
abbrev pub begins_with_one : List Datum → List Key → Bool
begins_with_one ds t = list_any (λ d. begins_with (key_in d) t) ds
