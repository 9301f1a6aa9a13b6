-- Sub-groups: rows of the main table that a change of a side table moves from group to group together.
use Rattle.std.specs.Prelude.{
  ◌≡◌,
  ◌<◌,
  ◌&&◌,
  ◌||◌,
  Bool,
  ◌==◌,
  ℕ,
  true,
  false,
  not,
  cond,
  All,
  IsSome,
  List,
  [],
  ◌∷◌,
  Option,
  None,
  Some,
  filter,
  length,
}
use Rattle.std.specs.List.{filter_map, list_any}
use Rattle.std.specs.BTreeMap.{is_at}
use Rattle.std.specs.Map.{values_of}
use Rattle.values.specs.Datum.{Datum}
use Rattle.values.specs.declared.key.Key.{Key}
use Rattle.view_lang.specs.Cells.{cell_at}
use Rattle.view_lang.specs.Config.{View}
use Rattle.view_lang.specs.Filter.{Filter}
use Rattle.view_lang.specs.Joined.{Side}
use Rattle.view_lang.specs.Outputs.{GroupOutput, groups}
use Rattle.view_lang.specs.Aggregates.{IsKeyCell}
use Rattle.view_lang.specs.Shifts.{NumberedRows}
use Rattle.view_lang.specs.Views.{passing_row}
use Rattle.view_lang.specs.declared.view.Lookup.{Lookup}
use Rattle.group_state.specs.GroupCounts.{GroupCounts}
use Rattle.group_state.specs.GroupParts.{grouped_with}
use Rattle.group_state.specs.Groups.{Keeps}
use Rattle.group_state.specs.Keys.{tuple_cmp}
use Rattle.group_state.specs.Moves.{AreTogether}
use Rattle.group_state.specs.Rows.{KeepsRows}
use Rattle.group_state.specs.declared.parts.GroupsParts.{GroupsParts}
use Rattle.group_state.specs.Tuples.{members, tuple_of}
use Rattle.group_state.specs.declared.accumulated_columns.AccumulatedColumn.{AccumulatedColumn}
use Rattle.sub_groups.specs.FilterParts.{are_decided, conjuncts, is_main, passes_main}
use Rattle.sub_groups.specs.Places.{representative_row}
use Rattle.sub_groups.specs.declared.sub_groups.SubGroups.{SubGroups}

-- the columns of the main table by which sub-groups are made: the one that is looked up, and the grouping columns
abbrev pub sub_keys : ℕ → Lookup → List ℕ → List ℕ
sub_keys n l by = l.on ∷ filter (λ k. is_main n k && not (k == l.on)) by

-- whether these columns are the main table's alone
abbrev pub are_main : ℕ → List AccumulatedColumn → Bool
are_main n columns = not (list_any (λ c. not (is_main n c.column)) columns)

-- A view with groups by these columns, which accumulate those, can be kept by sub-groups, where the main table has n
-- columns.
pub record CanSubGroup
    (n : ℕ) (v : View) (l : Lookup) (by : List ℕ) (columns : List AccumulatedColumn) :
    Type 0 where
  pub lookup : v.lookup ≡ Some l
  pub on : l.on < n
  pub decided : are_decided n (sub_keys n l by) (conjuncts v.filter) ≡ true
  pub of_main : are_main n columns ≡ true

-- Sub-groups by which a view of groups can be kept, where the main table has n columns.
pub record AreSubGroups (n : ℕ) (v : View) (s : SubGroups) : Type 0 where
  pub look : Lookup
  pub by : List ℕ
  pub outputs : List GroupOutput
  pub having : Option Filter
  pub grouped : v.outputs ≡ groups by outputs having
  pub can : CanSubGroup n v look by s.groups.columns
  pub keyed : s.groups.keys ≡ sub_keys n look by

-- They are the sub-groups of these rows.
abbrev pub KeepsSubGroups : SubGroups → NumberedRows → Type 0
KeepsSubGroups s rows = Keeps s.groups (values_of rows)

-- The columns by which they are made, and those that they accumulate, are the same.
pub record IsSame (old new : SubGroups) : Type 0 where
  pub keys : new.groups.keys ≡ old.groups.keys
  pub columns : new.groups.columns ≡ old.groups.columns

-- the sub-groups that have these parts
abbrev pub sub_groups_with : GroupsParts → SubGroups
sub_groups_with p = record { groups = grouped_with p }

-- the row, if it passes the part of a view's filter that the main table decides alone: it is in a sub-group
abbrev pub sub_row : ℕ → View → List Datum → Option (List Datum)
sub_row n v row = cond (passes_main n v.filter row) (Some row) None

-- A row of the main table, which has n columns, with values that have an order in these.
pub record IsMainRow (n : ℕ) (keys : List ℕ) (row : List Datum) : Type 0 where
  pub wide : length row ≡ n
  pub keyed : All (λ k. IsKeyCell (cell_at row k)) keys

-- one that is in a sub-group
pub record IsSubRow (n : ℕ) (v : View) (keys : List ℕ) (row : List Datum) : Type 0 where
  pub main : IsMainRow n keys row
  pub passes : passes_main n v.filter row ≡ true

-- The projected rows of these rows have this grouping tuple, or they are left out.
pub record ArePlaced
    (by : List ℕ) (columns : List AccumulatedColumn) (place : Option (List Datum)) (rows made : List (List Datum)) :
    Type 0 where
  pub none : place ≡ None → made ≡ []
  pub some : (r : List Datum) → place ≡ Some r → All (λ row. tuple_of by row ≡ tuple_of by r) made
  pub kept : IsSome place → (g : GroupCounts) → KeepsRows columns g rows → KeepsRows columns g made

-- The rows of a sub-group belong to the group of its representative.
abbrev pub SubGroupsArePlaced : Type 0
SubGroupsArePlaced =
    (n : ℕ) (v : View) (l : Lookup) (by : List ℕ) (columns : List AccumulatedColumn) (side : Side)
    (rows : List (List Datum))
    (t : List Key)
    → CanSubGroup n v l by columns → All (IsSubRow n v (sub_keys n l by)) rows
    → ArePlaced by columns (representative_row n v side (sub_keys n l by) t) (members (sub_keys n l by) t rows)
    (filter_map (passing_row v side) (members (sub_keys n l by) t rows))

-- A row that is in no sub-group isn't in the view.
abbrev pub OthersAreLeftOut : Type 0
OthersAreLeftOut =
    (n : ℕ) (v : View) (side : Side) (row : List Datum) → length row ≡ n → passes_main n v.filter row ≡ false
    → passing_row v side row ≡ None

-- the rows that are in none of these sub-groups
abbrev pub rows_but : List ℕ → List (List Key) → List (List Datum) → List (List Datum)
rows_but keys out rows = filter (λ row. not (list_any (is_at (tuple_cmp (tuple_of keys row))) out)) rows

-- One more sub-group is removed: the rows that are in none of those removed before are its own, and those in none that
-- are removed now.
abbrev pub SubGroupsPart : Type 0
SubGroupsPart =
    (keys : List ℕ) (make : List Datum → Option (List Datum)) (rows : List (List Datum)) (t : List Key)
    (out now : List (List Key))
    → list_any (is_at (tuple_cmp t)) out ≡ false
    → ((u : List Key) → list_any (is_at (tuple_cmp u)) now
    ≡ (list_any (is_at (tuple_cmp u)) out || is_at (tuple_cmp u) t))
    → AreTogether (filter_map make (rows_but keys out rows)) (filter_map make (members keys t rows))
    (filter_map make (rows_but keys now rows))
