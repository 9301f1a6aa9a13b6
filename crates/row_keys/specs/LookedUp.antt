-- The rows of a side table that rows look up by a cell.
use Rattle.std.specs.Prelude.{ℕ, All, IfSome, List, MatchOption, Option, map}
use Rattle.std.specs.Option.{option_map}
use Rattle.values.specs.Datum.{Datum, whole}
use Rattle.view_lang.specs.Cells.{cell_at}
use Rattle.view_lang.specs.Joined.{side_of}
use Rattle.row_keys.specs.Slots.{IsLiveAt, contents_of, row_of}
use Rattle.row_keys.specs.Store.{IsKnown, IsUnknown, Store}
use Rattle.row_keys.specs.declared.looking_up.Found.{Found}

-- A cell finds the live row of this number, or none.
abbrev pub Finds : Store → Datum → Option ℕ → Type 0
Finds s d o = MatchOption o (IsUnknown s d) (IsKnown s d)

-- Whole numbers find these.
abbrev pub AreFound : Store → List Found → Type 0
AreFound s found = All (λ f. Finds s (whole f.key) f.number) found

-- the live row whose key equals cell j of a row
abbrev pub row_for : Store → ℕ → List Datum → Option (List Datum)
row_for s j row = side_of s.table (contents_of s.slots) (cell_at row j)

-- the rows of these numbers, where there are some
abbrev pub found_rows : Store → List (Option ℕ) → List (Option (List Datum))
found_rows s numbers = map (option_map (row_of s.slots)) numbers

-- They are live.
abbrev pub AreLive : Store → List (Option ℕ) → Type 0
AreLive s numbers = All (λ o. IfSome o (IsLiveAt s.slots)) numbers
