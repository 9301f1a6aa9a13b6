-- The last rows of the main table, by their numbers.
use Rattle.std.proofs.Common.{◌≡◌, ℕ, [], ◌∷◌, ◌+◌, ◌*◌, ◌-◌, ◌<◌, ◌≤◌, List, ap, get_or, length, subst, sym, ◌∙◌}
use Rattle.std.specs.List.{range_with_len}
use Rattle.std.proofs.lemmas.List.FromFn.{length-range_with_len}
use Rattle.row_keys.specs.Slots.{Slot, last_numbers}
use Rattle.row_keys.specs.Store.{Store}
use Rattle.upkeep.specs.Stores.{rows_at, rows_in}
use Rattle.upkeep.specs.StoreLaws.{rows_there}

-- They are numbered from the first of them on.
pub last_named :
    (stores : List Store) (s : Store) (count : ℕ) (numbers : List ℕ) → s ≡ get_or stores 0 s → 0 < length stores
    → numbers ≡ range_with_len (length s.slots - count) count
    → numbers ≡ last_numbers count (rows_at (rows_in stores) 0)
last_named stores s count numbers at main named =
    named ∙ ap (λ (slots : List Slot). last_numbers count slots) (sym (rows_there stores 0 s at main))

-- the last row alone
pub last_one : (stores : List Store) (s : Store) (count first : ℕ) → s ≡ get_or stores 0 s → 0 < length stores → count ≡ 1
    → first ≡ length s.slots - count → first ∷ [] ≡ last_numbers count (rows_at (rows_in stores) 0)
last_one stores s count first at main one is =
    last_named stores s count (first ∷ []) at main
    (ap (λ n. n ∷ []) is ∙ sym (ap (λ n. range_with_len (length s.slots - count) n) one))

pub last_many : (count : ℕ) (slots : List Slot) (numbers : List ℕ) → numbers ≡ last_numbers count slots
    → length numbers ≡ count
last_many count slots numbers last = ap length last ∙ length-range_with_len (length slots - count) count

pub last_opened : (old new views count many : ℕ) → many ≡ count → new ≤ old + views * many → new ≤ old + views * count
last_opened old new views count many same opened = subst (λ n. new ≤ old + views * n) same opened
