-- Which groups a change of rows touches.
use Rattle.std.specs.Prelude.{◌≡◌, ◌||◌, ℕ, Bool, false, List, Option, None, Some}
use Rattle.std.specs.BTreeMap.{is_at}
use Rattle.std.specs.Map.{lookup}
use Rattle.values.specs.Datum.{Datum}
use Rattle.values.specs.declared.key.Key.{Key}
use Rattle.view_lang.specs.Shifts.{Shift}
use Rattle.group_state.specs.GroupCounts.{GroupCounts}
use Rattle.group_state.specs.Grouped.{Grouped}
use Rattle.group_state.specs.Keys.{tuple_cmp}
use Rattle.group_state.specs.Tuples.{has_tuple}

-- the group of a tuple
abbrev pub group_at : Grouped → List Key → Option GroupCounts
group_at g t = lookup (is_at (tuple_cmp t)) g.groups

-- whether there is a row, and it has a tuple
abbrev pub is_of : List ℕ → List Key → Option (List Datum) → Bool
is_of keys t None = false
is_of keys t (Some row) = has_tuple keys t row

abbrev pub comes : List ℕ → List Key → Shift → Bool
comes keys t s = is_of keys t s.after

abbrev pub goes : List ℕ → List Key → Shift → Bool
goes keys t s = is_of keys t s.before

-- whether the change at a row number touches a tuple's group
abbrev pub touches : List ℕ → List Key → Shift → Bool
touches keys t s = goes keys t s || comes keys t s

-- The groups of other tuples stay.
abbrev pub StayBut : (List Key → Bool) → Grouped → Grouped → Type 0
StayBut touched old new = (t : List Key) → touched t ≡ false → group_at new t ≡ group_at old t
