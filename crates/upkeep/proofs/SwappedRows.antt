-- Rows of a side table whose keys a change doesn't name.
use Rattle.std.proofs.Common.{◌≡◌, ℕ, zero, suc, ◌<◌, ◌≤◌, ◌||◌, All, Bool, true, false, cond, List, [], ◌∷◌, ◌++◌, Option, Some, find, length, refl, ap, sym, ◌∙◌, arith, true≢false}
use Rattle.std.specs.List.{range_with_len}
use Rattle.std.specs.Prelude.{if◌then◌else◌, ◌-◌}
use Rattle.std.proofs.lemmas.List.{length-take, map-append}
use Rattle.values.specs.Datum.{Datum, bytes, list, null, structure, text, truth, whole}
use Rattle.view_lang.specs.Config.{Table}
use Rattle.view_lang.specs.Contents.{is_among, key_in, same_key}
use Rattle.view_lang.specs.Joined.{side_of}
use Rattle.row_keys.specs.Slots.{CanRevert, Slot, contents_of, keys_at, last_numbers, live, marked, put_back, put_hidden, retracted, reverted, row_of}
use Rattle.row_keys.specs.NumberLaws.{HiddenIsUndone}
use Rattle.upkeep.specs.Swaps.{CanSwap, swapped}
use Rattle.row_keys.specs.HiddenChanges.{NamesRows, hidden, named_keys}
use Rattle.row_keys.specs.TableChanges.{CanGoBack, IsChangeOf, back}
use Rattle.row_keys.specs.declared.table_change.TableChange.{TableChange}
use Rattle.row_keys.specs.declared.table_change.TableChange.TheVariants.{Appended, Put, Retracted}
use Rattle.upkeep.specs.declared.view_state.Turn.{Turn}
use Rattle.upkeep.specs.declared.view_state.Turn.TheVariants as turn
use Rattle.upkeep.proofs.MainTable.{put_back_there, retracted_there}

-- the row with a key that isn't named

abbrev found : Table → Datum → List Slot → Option (List Datum)
found t d slots = find (λ row. same_key d (key_in t row)) (live slots)

neither : (a b : Bool) → (a || b) ≡ false → (a ≡ false) × (b ≡ false)
neither true b h = absurd (true≢false h)
neither false b h = (refl, h)

both_none : (a b : Bool) → a ≡ false → b ≡ false → (a || b) ≡ false
both_none a b h k = ap (λ x. x || b) h ∙ k

pub row_marked : (b : Bool) (slots : List Slot) (n m : ℕ) → row_of (marked b slots n) m ≡ row_of slots m
row_marked b [] n m = refl
row_marked b (s ∷ ss) zero zero = refl
row_marked b (s ∷ ss) zero (suc m) = refl
row_marked b (s ∷ ss) (suc n) zero = refl
row_marked b (s ∷ ss) (suc n) (suc m) = row_marked b ss n m

keys_marked : (t : Table) (ms : List ℕ) (b : Bool) (slots : List Slot) (n : ℕ)
    → keys_at t ms (marked b slots n) ≡ keys_at t ms slots
keys_marked t [] b slots n = refl
keys_marked t (m ∷ ms) b slots n =
    ap (λ r. key_in t r ∷ keys_at t ms (marked b slots n)) (row_marked b slots n m)
    ∙ ap (λ ks. key_in t (row_of slots m) ∷ ks) (keys_marked t ms b slots n)

keys_retracted : (t : Table) (ms ns : List ℕ) (slots : List Slot)
    → keys_at t ms (retracted ns slots) ≡ keys_at t ms slots
unfolding retracted
keys_retracted t ms [] slots = refl
keys_retracted t ms (n ∷ ns) slots = keys_retracted t ms ns (marked false slots n) ∙ keys_marked t ms false slots n

keys_put_back : (t : Table) (ms ns : List ℕ) (slots : List Slot) → keys_at t ms (put_back ns slots) ≡ keys_at t ms slots
unfolding put_back
keys_put_back t ms [] slots = refl
keys_put_back t ms (n ∷ ns) slots = keys_marked t ms true (put_back ns slots) n ∙ keys_put_back t ms ns slots

row_put_back : (ns : List ℕ) (slots : List Slot) (m : ℕ) → row_of (put_back ns slots) m ≡ row_of slots m
unfolding put_back
row_put_back [] slots m = refl
row_put_back (n ∷ ns) slots m = row_marked true (put_back ns slots) n m ∙ row_put_back ns slots m

-- a row that is marked is skipped
passed : (t : Table) (d : Datum) (row : List Datum) (rest : List (List Datum)) (b : Bool)
    → same_key d (key_in t row) ≡ false
    → find (λ r. same_key d (key_in t r)) (if b then row ∷ rest else rest) ≡ find (λ r. same_key d (key_in t r)) rest
passed t d row rest true other = ap (λ x. cond x (Some row) (find (λ r. same_key d (key_in t r)) rest)) other
passed t d row rest false other = refl

kept_in_front : (t : Table) (d : Datum) (row : List Datum) (xs ys : List (List Datum)) (b : Bool)
    → find (λ r. same_key d (key_in t r)) xs ≡ find (λ r. same_key d (key_in t r)) ys
    → find (λ r. same_key d (key_in t r)) (if b then row ∷ xs else xs)
    ≡ find (λ r. same_key d (key_in t r)) (if b then row ∷ ys else ys)
kept_in_front t d row xs ys true same = ap (λ o. cond (same_key d (key_in t row)) (Some row) o) same
kept_in_front t d row xs ys false same = same

found_marked : (t : Table) (d : Datum) (b : Bool) (slots : List Slot) (n : ℕ)
    → same_key d (key_in t (row_of slots n)) ≡ false → found t d (marked b slots n) ≡ found t d slots
unfolding live
found_marked t d b [] n other = refl
found_marked t d b (s ∷ ss) zero other =
    passed t d s.row (live ss) b other ∙ sym (passed t d s.row (live ss) s.live other)
found_marked t d b (s ∷ ss) (suc n) other =
    kept_in_front t d s.row (live (marked b ss n)) (live ss) s.live (found_marked t d b ss n other)

found_retracted : (t : Table) (d : Datum) (ns : List ℕ) (slots : List Slot)
    → is_among d (keys_at t ns slots) ≡ false → found t d (retracted ns slots) ≡ found t d slots
unfolding retracted is_among
found_retracted t d [] slots other = refl
found_retracted t d (n ∷ ns) slots other =
    let apart = neither (same_key d (key_in t (row_of slots n))) (is_among d (keys_at t ns slots)) other in
    found_retracted t d ns (marked false slots n) (ap (is_among d) (keys_marked t ns false slots n) ∙ apart.1)
    ∙ found_marked t d false slots n apart.0

found_put_back : (t : Table) (d : Datum) (ns : List ℕ) (slots : List Slot)
    → is_among d (keys_at t ns slots) ≡ false → found t d (put_back ns slots) ≡ found t d slots
unfolding put_back is_among
found_put_back t d [] slots other = refl
found_put_back t d (n ∷ ns) slots other =
    let apart = neither (same_key d (key_in t (row_of slots n))) (is_among d (keys_at t ns slots)) other in
    found_marked t d true (put_back ns slots) n
    (ap (λ r. same_key d (key_in t r)) (row_put_back ns slots n) ∙ apart.0)
    ∙ found_put_back t d ns slots apart.1

among_either : (d : Datum) (xs ys : List Datum) → is_among d (xs ++ ys) ≡ false
    → (is_among d xs ≡ false) × (is_among d ys ≡ false)
unfolding is_among
among_either d [] ys h = (refl, h)
among_either d (x ∷ xs) ys h =
    let here = neither (same_key d x) (is_among d (xs ++ ys)) h in
    let rest = among_either d xs ys here.1 in
    (both_none (same_key d x) (is_among d xs) here.0 rest.0, rest.1)

named_either : (t : Table) (d : Datum) (ms ns : List ℕ) (slots : List Slot)
    → is_among d (keys_at t (ms ++ ns) slots) ≡ false
    → (is_among d (keys_at t ms slots) ≡ false) × (is_among d (keys_at t ns slots) ≡ false)
named_either t d ms ns slots h =
    among_either d (keys_at t ms slots) (keys_at t ns slots)
    (ap (is_among d) (sym (map-append (λ n. key_in t (row_of slots n)) ms ns)) ∙ h)

found_swapped : (u : Turn) (t : Table) (c : TableChange) (d : Datum) (slots : List Slot)
    → is_among d (named_keys t c slots) ≡ false → found t d (swapped u c slots) ≡ found t d slots
found_swapped turn.Come t (Appended n) d slots other = refl
found_swapped turn.Come t (Retracted ns) d slots other = found_put_back t d ns.items slots other
found_swapped turn.Come t (Put n replaced) d slots other =
    let apart = named_either t d (last_numbers n slots) replaced.items slots other in
    found_put_back t d replaced.items (retracted (last_numbers n slots) slots)
    (ap (is_among d) (keys_retracted t replaced.items (last_numbers n slots) slots) ∙ apart.1)
    ∙ found_retracted t d (last_numbers n slots) slots apart.0
found_swapped turn.Go t (Appended n) d slots other = refl
found_swapped turn.Go t (Retracted ns) d slots other = found_retracted t d ns.items slots other
found_swapped turn.Go t (Put n replaced) d slots other =
    let apart = named_either t d (last_numbers n slots) replaced.items slots other in
    found_put_back t d (last_numbers n slots) (retracted replaced.items slots)
    (ap (is_among d) (keys_retracted t (last_numbers n slots) replaced.items slots) ∙ apart.0)
    ∙ found_retracted t d replaced.items slots apart.1

-- A key that a change doesn't name is looked up with the same result with it and without it.
pub side_swapped : (u : Turn) (t : Table) (c : TableChange) (d : Datum) (slots : List Slot)
    → is_among d (named_keys t c slots) ≡ false
    → side_of t (contents_of (swapped u c slots)) d ≡ side_of t (contents_of slots) d
unfolding side_of
side_swapped u t c null slots other = refl
side_swapped u t c (truth b) slots other = found_swapped u t c (truth b) slots other
side_swapped u t c (whole n) slots other = found_swapped u t c (whole n) slots other
side_swapped u t c (text s) slots other = found_swapped u t c (text s) slots other
side_swapped u t c (bytes b) slots other = found_swapped u t c (bytes b) slots other
side_swapped u t c (list es) slots other = found_swapped u t c (list es) slots other
side_swapped u t c (structure es) slots other = found_swapped u t c (structure es) slots other

-- The rows that a change names exist.

pub few_last : (n : ℕ) (slots : List Slot) → CanRevert n slots → n ≤ length slots
unfolding CanRevert
few_last n slots can = can

shorter : (n : ℕ) (slots : List Slot) → length (reverted n slots) ≤ length slots
unfolding reverted
shorter n slots = let long = length-take (length slots - n) slots in omega (arith, long)

still_below : (m : ℕ) (ns : List ℕ) (n : ℕ) → m ≤ n → All (λ k. k < m) ns → All (λ k. k < n) ns
still_below m ns n few below = λ k d at. let here = below k d at in omega (arith, here, few)

pub names_rows : (u : Turn) (t : Table) (c : TableChange) (slots : List Slot) → CanSwap u t c slots → NamesRows c slots
names_rows turn.Come t (Appended n) slots can = absurd can.0
names_rows turn.Come t (Retracted ns) slots can = put_back_there t ns.items slots can.1
names_rows turn.Come t (Put n replaced) slots can = (
  few_last n slots can.1.0,
  still_below (length (reverted n slots)) replaced.items (length slots) (shorter n slots)
      (put_back_there t replaced.items (reverted n slots) can.1.1),
)
names_rows turn.Go t (Appended n) slots can = absurd can.0
names_rows turn.Go t (Retracted ns) slots can = retracted_there ns.items slots can.1.can_show
names_rows turn.Go t (Put n replaced) slots can =
    (few_last n slots can.1.can_show.0, retracted_there replaced.items slots can.1.can_show.1)

-- The keys that a change names are those before it is reverted.

length_marked : (b : Bool) (slots : List Slot) (n : ℕ) → length (marked b slots n) ≡ length slots
length_marked b [] n = refl
length_marked b (s ∷ ss) zero = refl
length_marked b (s ∷ ss) (suc n) = ap suc (length_marked b ss n)

length_retracted : (ns : List ℕ) (slots : List Slot) → length (retracted ns slots) ≡ length slots
unfolding retracted
length_retracted [] slots = refl
length_retracted (n ∷ ns) slots = length_retracted ns (marked false slots n) ∙ length_marked false slots n

length_put_back : (ns : List ℕ) (slots : List Slot) → length (put_back ns slots) ≡ length slots
unfolding put_back
length_put_back [] slots = refl
length_put_back (n ∷ ns) slots = length_marked true (put_back ns slots) n ∙ length_put_back ns slots

pub keys_hidden : (t : Table) (c : TableChange) (slots : List Slot)
    → named_keys t c (hidden c slots) ≡ named_keys t c slots
keys_hidden t (Appended n) slots = refl
keys_hidden t (Retracted ns) slots = keys_put_back t ns.items ns.items slots
keys_hidden t (Put n replaced) slots =
    let last : List ℕ = last_numbers n slots in
    let many : length (put_hidden n replaced.items slots) ≡ length slots =
    length_put_back replaced.items (retracted last slots) ∙ length_retracted last slots in
    ap (λ k. keys_at t (range_with_len (k - n) n ++ replaced.items) (put_hidden n replaced.items slots)) many
    ∙ keys_put_back t (last ++ replaced.items) replaced.items (retracted last slots)
    ∙ keys_retracted t (last ++ replaced.items) last slots

-- Where it is hidden, the same rows are live as where it was reverted.
pub hidden_live : HiddenIsUndone → (t : Table) (c : TableChange) (slots : List Slot) → IsChangeOf 1 c
    → CanGoBack t c slots → live (hidden c slots) ≡ live (back c slots)
hidden_live law t (Appended n) slots side can = absurd side
hidden_live law t (Retracted ns) slots side can = refl
hidden_live law t (Put n replaced) slots side can = law t replaced.items n slots can

pub side_change : (n : ℕ) (c : TableChange) → 0 < n → IsChangeOf n c → IsChangeOf 1 c
side_change zero c side is = absurd (omega (arith, side))
side_change (suc n) (Appended k) side is = absurd is
side_change (suc n) (Retracted ns) side is = tt
side_change (suc n) (Put k replaced) side is = tt
