-- The grouping tuple of a row.
use Rattle.std.specs.Prelude.{ℕ, Bool, List, map, filter}
use Rattle.std.specs.BTreeMap.{is_at}
use Rattle.values.specs.Datum.{Datum}
use Rattle.values.specs.declared.key.Key.{Key}
use Rattle.group_state.specs.Keys.{key_in, tuple_cmp}
use Rattle.group_state.specs.Rows.{cell}

abbrev pub tuple_of : List ℕ → List Datum → List Key
tuple_of columns row = map (λ j. key_in (cell j row)) columns

abbrev pub has_tuple : List ℕ → List Key → List Datum → Bool
has_tuple columns t row = is_at (tuple_cmp t) (tuple_of columns row)

-- the rows with a tuple
abbrev pub members : List ℕ → List Key → List (List Datum) → List (List Datum)
members columns t rows = filter (has_tuple columns t) rows
