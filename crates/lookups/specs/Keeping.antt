-- When the numbers by key are those of some rows.
use Rattle.lookups.specs.Refers.{RowsByKey, key_cmp, refers}
use Rattle.std.specs.BTreeMap.{is_at}
use Rattle.std.specs.Prelude.{◌≡◌, ℕ, Bool, false, List, Option, None, Some}
use Rattle.values.specs.Datum.{Datum}
use Rattle.values.specs.Keys.{key_of}
use Rattle.values.specs.declared.key.Key.{Key}
use Rattle.view_lang.specs.Cells.{cell_at}
use Rattle.view_lang.specs.Shifts.{NumberedRows, row_at}

-- the key that a row holds in its first cell; none where that is a list or a struct, or there is no row
abbrev pub key_held : Option (List Datum) → Option Key
key_held None = None
key_held (Some row) = key_of (cell_at row 0)

-- whether a key that may be there is this one
abbrev pub is_key : Key → Option Key → Bool
is_key k None = false
is_key k (Some held) = is_at (key_cmp held) k

-- whether a row holds a key
abbrev pub holds : Key → Option (List Datum) → Bool
holds k row = is_key k (key_held row)

-- A key has a number where the row of that number holds it.
pub record Keeps (kept : RowsByKey) (rows : NumberedRows) : Type 0 where
  pub rows_are : (k : Key) (n : ℕ) → refers kept k n ≡ holds k (row_at n rows)
