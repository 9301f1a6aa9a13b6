-- How rows are stored: their cells, and the keys by which they are numbered.
use Rattle.std.specs.Prelude.{◌≡◌, ◌⊎◌, ℕ, ◌≤◌, true, false, All, List, [], ◌∷◌, if◌then◌else◌}
use Rattle.values.specs.Datum.{Datum, is_null, items_of}
use Rattle.values.specs.Keys.{datum_of_key}
use Rattle.values.specs.Layouts.{HoldsEach}
use Rattle.values.specs.declared.key.Key.{Key}
use Rattle.view_lang.specs.Causes.{is_heavy, layouts_of}
use Rattle.view_lang.specs.Config.{Table}
use Rattle.view_lang.specs.Contents.{key_in}
use Rattle.view_lang.specs.Rows.{IsRow}
use Rattle.view_lang.specs.TableRules.{IsTable}
use Rattle.row_keys.specs.Numbers.{IsAt, Numbered, live_count}
use Rattle.row_keys.specs.Slots.{Slot, slot}

-- the rows, each live or retracted
abbrev pub joined : List (List Datum) → List Numbered → List Slot
joined [] numbers = []
joined (r ∷ rs) [] = []
joined (r ∷ rs) (n ∷ ns) = slot r n.live ∷ joined rs ns

-- each row's key is the one by which it is numbered
abbrev pub AreKeyed : Table → List (List Datum) → List Numbered → Type 0
AreKeyed t [] [] = Unit {0}
AreKeyed t [] (n ∷ ns) = ⊥
AreKeyed t (r ∷ rs) [] = ⊥
AreKeyed t (r ∷ rs) (n ∷ ns) = (key_in t r ≡ datum_of_key n.key) × AreKeyed t rs ns

abbrev pub IsLightRow : Table → List Datum → Type 0
IsLightRow t row = is_heavy (layouts_of t) row ≡ false

abbrev pub HoldsRow : Table → List Datum → Type 0
HoldsRow t row = HoldsEach (layouts_of t) (items_of row)

-- a row of the table, unless it is released
abbrev pub IsRight : Table → List Datum → Type 0
IsRight t row = (row ≡ []) ⊎ IsRow t.columns row

-- The keys of live rows aren't null.
abbrev pub AreGiven : List Numbered → Type 0
AreGiven numbers = (n : ℕ) (k : Key) → IsAt numbers n k true → is_null (datum_of_key k) ≡ false

-- What holds of rows and of their numbers. A released row has no cells, and is numbered with the null key.
pub record IsStored (t : Table) (rows : List (List Datum)) (numbers : List Numbered) : Type 0 where
  pub table : IsTable t
  pub right : All (IsRight t) rows
  pub given : AreGiven numbers
  pub keyed : AreKeyed t rows numbers
  pub few : live_count numbers ≤ t.max_rows

-- the keys of the live rows
abbrev pub live_keys : List Numbered → List Datum
live_keys [] = []
live_keys (x ∷ xs) = if x.live then datum_of_key x.key ∷ live_keys xs else live_keys xs
