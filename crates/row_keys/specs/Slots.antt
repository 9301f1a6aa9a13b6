-- The rows of a store by number: a row's number is its position. Retracted rows keep their numbers; those of an append
-- that is undone are given again.
use Rattle.std.specs.Prelude.{
  ◌≡◌,
  ℕ,
  zero,
  suc,
  ◌-◌,
  ◌<◌,
  ◌≤◌,
  Bool,
  true,
  false,
  if◌then◌else◌,
  List,
  [],
  ◌∷◌,
  Some,
  get_or,
  length,
  map,
  slice_get,
  take,
}
use Rattle.std.specs.List.{range_with_len}
use Rattle.values.specs.Datum.{Datum, is_null}
use Rattle.view_lang.specs.Config.{Table}
use Rattle.view_lang.specs.Contents.{Contents, is_among, key_in, keys_in}

-- a row, and whether it is live or retracted
pub record Slot : Type 0 where
  pub row : List Datum
  pub live : Bool

abbrev pub slot : List Datum → Bool → Slot
slot row live = record { row = row; live = live }

abbrev pub new_slot : List Datum → Slot
new_slot row = slot row true

-- the live rows, in order
unfoldable pub live : List Slot → List (List Datum)
live [] = []
live (s ∷ ss) = if s.live then s.row ∷ live ss else live ss

-- the contents of the table that has them
abbrev pub contents_of : List Slot → Contents
contents_of slots = record { live = live slots; appended = length slots }

abbrev pub no_slot : Slot
no_slot = slot [] false

-- the row of this number is live
abbrev pub IsLiveAt : List Slot → ℕ → Type 0
IsLiveAt slots n = (get_or slots n no_slot).live ≡ true

-- one row has become live, or has been retracted
abbrev pub marked : Bool → List Slot → ℕ → List Slot
marked b [] n = []
marked b (s ∷ ss) zero = slot s.row b ∷ ss
marked b (s ∷ ss) (suc n) = s ∷ marked b ss n

abbrev pub row_of : List Slot → ℕ → List Datum
row_of slots n = (get_or slots n no_slot).row

abbrev pub keys_at : Table → List ℕ → List Slot → List Datum
keys_at t ns slots = map (λ n. key_in t (row_of slots n)) ns

-- The row of that number is there: live, or retracted.
abbrev pub IsThere : List Slot → ℕ → Bool → Type 0
IsThere slots n b = (row : List Datum) × (slice_get slots n ≡ Some (slot row b))

-- These rows are live, each when its turn comes: none is named twice.
unfoldable pub CanRetract : List ℕ → List Slot → Type 0
CanRetract [] slots = Unit {0}
CanRetract (n ∷ ns) slots = IsThere slots n true × CanRetract ns (marked false slots n)

-- the rows where those of these numbers are retracted, one after the other
unfoldable pub retracted : List ℕ → List Slot → List Slot
retracted [] slots = slots
retracted (n ∷ ns) slots = retracted ns (marked false slots n)

-- Retracted rows are restored in the other order: the last one named is the first to be live again.
unfoldable pub put_back : List ℕ → List Slot → List Slot
put_back [] slots = slots
put_back (n ∷ ns) slots = marked true (put_back ns slots) n

-- The row has a key, so it isn't released.
abbrev pub HasKey : Table → List Datum → Type 0
HasKey t row = is_null (key_in t row) ≡ false

-- These rows were retracted and aren't released, and when the turn of each comes no live row has its key.
unfoldable pub AreRetracted : Table → List ℕ → List Slot → Type 0
AreRetracted t [] slots = Unit {0}
AreRetracted t (n ∷ ns) slots =
    AreRetracted t ns slots × IsThere (put_back ns slots) n false
    × (is_among (key_in t (row_of slots n)) (keys_in t (live (put_back ns slots))) ≡ false)
    × HasKey t (row_of slots n)

-- and there is space for them
unfoldable pub CanPutBack : Table → List ℕ → List Slot → Type 0
CanPutBack t ns slots = AreRetracted t ns slots × (length (live (put_back ns slots)) ≤ t.max_rows)

-- there are n rows that can be removed
unfoldable pub CanRevert : ℕ → List Slot → Type 0
CanRevert n slots = n ≤ length slots

-- the rows without the last n
unfoldable pub reverted : ℕ → List Slot → List Slot
reverted n slots = take (length slots - n) slots

-- Rows that were put are removed, and the rows are restored that they replaced.
abbrev pub put_undone : ℕ → List ℕ → List Slot → List Slot
put_undone n replaced slots = put_back replaced (reverted n slots)

-- the numbers of the last n rows
abbrev pub last_numbers : ℕ → List Slot → List ℕ
last_numbers n slots = range_with_len (length slots - n) n

-- The last n rows are live and can be removed, and then the rows that they replaced can be restored.
abbrev pub CanUndoPut : Table → ℕ → List ℕ → List Slot → Type 0
CanUndoPut t n replaced slots =
    CanRevert n slots × CanPutBack t replaced (reverted n slots) × CanRetract (last_numbers n slots) slots

-- Rows that were put are retracted, and the rows are restored that they replaced. No number is freed.
abbrev pub put_hidden : ℕ → List ℕ → List Slot → List Slot
put_hidden n replaced slots = put_back replaced (retracted (last_numbers n slots) slots)

-- The rows that they replaced are retracted again, and they are restored.
abbrev pub put_shown : ℕ → List ℕ → List Slot → List Slot
put_shown n replaced slots = put_back (last_numbers n slots) (retracted replaced slots)

-- The rows that they replaced can be retracted, and then the last n rows can be restored.
abbrev pub CanShowPut : Table → ℕ → List ℕ → List Slot → Type 0
CanShowPut t n replaced slots =
    CanRevert n slots × CanRetract replaced slots × CanPutBack t (last_numbers n slots) (retracted replaced slots)

-- the slots when the row of that number is released: no more is known of it than that it had a number
abbrev pub emptied : List Slot → ℕ → List Slot
emptied [] n = []
emptied (s ∷ ss) zero = no_slot ∷ ss
emptied (s ∷ ss) (suc n) = s ∷ emptied ss n

-- the slots when those of all these are released
abbrev pub released : List ℕ → List Slot → List Slot
released [] slots = slots
released (n ∷ ns) slots = released ns (emptied slots n)

-- There is a row of that number, and it isn't live.
abbrev pub IsOut : List Slot → ℕ → Type 0
IsOut slots n = (n < length slots) × ((get_or slots n no_slot).live ≡ false)

abbrev pub AllOut : List ℕ → List Slot → Type 0
AllOut [] slots = Unit {0}
AllOut (n ∷ ns) slots = IsOut slots n × AllOut ns slots
