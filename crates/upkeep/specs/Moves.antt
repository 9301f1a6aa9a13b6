-- Sub-groups that a change of a side table moves from group to group.
use Rattle.std.specs.Prelude.{◌≡◌, ◌<◌, ℕ, All, List, Option, drop, length, take}
use Rattle.std.specs.List.{filter_map}
use Rattle.values.specs.Datum.{Datum}
use Rattle.values.specs.declared.key.Key.{Key}
use Rattle.view_lang.specs.Config.{Table, View}
use Rattle.view_lang.specs.Joined.{Side}
use Rattle.view_lang.specs.Limits.{max_appended_rows}
use Rattle.view_lang.specs.Views.{passing_row}
use Rattle.group_order.specs.Ranked.{Keeps as KeepsRanked, Ranked}
use Rattle.group_state.specs.Groups.{Keeps as KeepsGroups}
use Rattle.group_state.specs.Moves.{AreTogether}
use Rattle.group_state.specs.Tuples.{members}
use Rattle.row_keys.specs.Store.{Store}
use Rattle.sub_groups.specs.Places.{representative_row}
use Rattle.sub_groups.specs.SubGroups.{AreSubGroups, IsSubRow, rows_but}
use Rattle.sub_groups.specs.declared.sub_groups.SubGroups.{SubGroups}
use Rattle.upkeep.specs.Inputs.{side_from}
use Rattle.upkeep.specs.Stores.{tables_in}
use Rattle.upkeep.specs.ViewStates.{width_in}
use Rattle.upkeep.specs.declared.view_state.Turn.{Turn}
use Rattle.upkeep.specs.declared.view_state.Turn.TheVariants as turn

-- The sub-groups can be moved between these groups.
pub record CanMove (tables : List Table) (v : View) (s : SubGroups) (g : Ranked) : Type 0 where
  pub right : AreSubGroups (width_in tables) v s
  pub keyed : g.groups.keys ≡ right.by
  pub counted : g.groups.columns ≡ s.groups.columns

-- Sub-groups are those of these rows of the main table, which are so few that they can be counted.
pub record AreGrouped (tables : List Table) (v : View) (s : SubGroups) (rows : List (List Datum)) : Type 0 where
  pub each : All (IsSubRow (width_in tables) v s.groups.keys) rows
  pub kept : KeepsGroups s.groups rows
  pub few : length rows < max_appended_rows

-- What the view makes of these rows is what it makes of those of a sub-group, and of the others.
pub record AreParted
    (v : View) (side : Side) (keys : List ℕ) (t : List Key) (rows all others : List (List Datum)) :
    Type 0 where
  pub together : AreTogether all (filter_map (passing_row v side) (members keys t rows)) others
  pub few : length all < max_appended_rows

-- the rows of the groups before a sub-group is removed or added, and after it
abbrev pub before_move : Turn → List (List Datum) → List (List Datum) → List (List Datum)
before_move turn.Go all others = all
before_move turn.Come all others = others

abbrev pub after_move : Turn → List (List Datum) → List (List Datum) → List (List Datum)
after_move turn.Go all others = others
after_move turn.Come all others = all

-- The sub-group of a tuple can be removed from these groups, or added to them.
abbrev pub CanTurnSubGroup : List Store → View → SubGroups → List Key → Turn → Ranked → Type 0
CanTurnSubGroup stores v s t u groups =
    (rows : List (List Datum)) × (all : List (List Datum)) × (others : List (List Datum))
    × (AreGrouped (tables_in stores) v s rows
    × (AreParted v (side_from stores v) s.groups.keys t rows all others
    × KeepsRanked groups (before_move u all others)))

-- It was removed, or added.
abbrev pub TurnsSubGroup : List Store → View → SubGroups → List Key → Turn → Ranked → Ranked → Type 0
TurnsSubGroup stores v s t u old new =
    (rows all others : List (List Datum)) → AreGrouped (tables_in stores) v s rows
    → AreParted v (side_from stores v) s.groups.keys t rows all others → KeepsRanked old (before_move u all others)
    → KeepsRanked new (after_move u all others)

-- which sub-groups are out where the first i of these were removed, or added
abbrev pub out_at : Turn → ℕ → List (List Key) → List (List Key)
out_at turn.Go i ts = take i ts
out_at turn.Come i ts = drop i ts

-- the projected rows of the rows that are in none of these sub-groups
abbrev pub projected_but : View → Side → List ℕ → List (List Key) → List (List Datum) → List (List Datum)
projected_but v side keys out rows = filter_map (passing_row v side) (rows_but keys out rows)

-- the representative row of a sub-group, for which its group is found
abbrev pub representative_row_of : List Store → View → SubGroups → List Key → Option (List Datum)
representative_row_of stores v s t =
    representative_row (width_in (tables_in stores)) v (side_from stores v) s.groups.keys t

-- Groups hold the projected rows of these rows, but for those of the sub-groups that are out.
abbrev pub KeepsBut : List Store → View → SubGroups → Ranked → List (List Key) → List (List Datum) → Type 0
KeepsBut stores v s groups out rows = KeepsRanked groups (projected_but v (side_from stores v) s.groups.keys out rows)

-- The sub-groups of these tuples can be removed from these groups, or added to them.
abbrev pub CanTurnSubGroups : List Store → View → SubGroups → List (List Key) → Turn → Ranked → Type 0
CanTurnSubGroups stores v s ts u groups =
    (rows : List (List Datum))
    × (AreGrouped (tables_in stores) v s rows × KeepsBut stores v s groups (out_at u 0 ts) rows)

-- They were removed, or added.
abbrev pub TurnsSubGroups : List Store → View → SubGroups → List (List Key) → Turn → Ranked → Ranked → Type 0
TurnsSubGroups stores v s ts u old new =
    (rows : List (List Datum)) → AreGrouped (tables_in stores) v s rows
    → KeepsBut stores v s old (out_at u 0 ts) rows → KeepsBut stores v s new (out_at u (length ts) ts) rows
