-- The rows of a put, as they are hidden and shown.
use Rattle.std.proofs.Common.{
  ◌≡◌,
  ℕ,
  zero,
  suc,
  ◌+◌,
  ◌-◌,
  ◌≤◌,
  Bool,
  true,
  false,
  List,
  [],
  ◌∷◌,
  ◌++◌,
  Some,
  drop,
  length,
  map,
  take,
  refl,
  ap,
  sym,
  subst,
  ◌∙◌,
  arith,
  length-append,
}
use Rattle.std.specs.Prelude.{slice_get, if◌then◌else◌}
use Rattle.std.specs.List.{range_with_len}
use Rattle.std.proofs.lemmas.List.{append_assoc, length-drop, length-map, take-append-drop}
use Rattle.std.proofs.lemmas.Option.{none-some}
use Rattle.values.specs.Datum.{Datum, is_null}
use Rattle.arrays.specs.Checked.{CheckedColumn}
use Rattle.view_lang.specs.Config.{Table}
use Rattle.view_lang.specs.Contents.{is_among, key_in, keys_in}
use Rattle.row_keys.specs.Batches.{batch_rows}
use Rattle.row_keys.specs.Slots.{
  AreRetracted,
  CanPutBack,
  CanRetract,
  CanRevert,
  CanShowPut,
  CanUndoPut,
  IsThere,
  Slot,
  last_numbers,
  live,
  marked,
  new_slot,
  put_back,
  put_hidden,
  put_shown,
  put_undone,
  retracted,
  reverted,
  row_of,
  slot,
}
use Rattle.row_keys.proofs.AppendedBatches.{batch_counted}
use Rattle.row_keys.proofs.Places.{at_more, take_front}
use Rattle.row_keys.proofs.RowsPutBack.{can_retract_again, length_put_back, retracted_again}
use Rattle.row_keys.proofs.RetractedRows.{length_retracted, put_back_undoes}
use Rattle.row_keys.proofs.TurnedRows.{row_put_back}

-- the row after those

marked_next : (b : Bool) (xs : List Slot) (s : Slot) (ys : List Slot)
    → marked b (xs ++ s ∷ ys) (length xs) ≡ xs ++ slot s.row b ∷ ys
marked_next b [] s ys = refl
marked_next b (x ∷ xs) s ys = ap (λ zs. x ∷ zs) (marked_next b xs s ys)

one_more : (xs : List Slot) (s : Slot) (ys : List Slot) → xs ++ s ∷ ys ≡ (xs ++ s ∷ []) ++ ys
one_more xs s ys = sym (append_assoc xs (s ∷ []) ys)

there_next : (xs : List Slot) (s : Slot) (ys : List Slot) (k : ℕ) → k ≡ length xs → slice_get (xs ++ s ∷ ys) k ≡ Some s
there_next xs s ys k at = ap (λ n. slice_get (xs ++ s ∷ ys) n) at ∙ here xs
  where
    here : (zs : List Slot) → slice_get (zs ++ s ∷ ys) (length zs) ≡ Some s
    here [] = refl
    here (z ∷ zs) = here zs

off_next : (xs : List Slot) (s : Slot) (ys : List Slot) (k : ℕ) → k ≡ length xs
    → marked false (xs ++ s ∷ ys) k ≡ (xs ++ slot s.row false ∷ []) ++ ys
off_next xs s ys k at =
    ap (λ n. marked false (xs ++ s ∷ ys) n) at ∙ marked_next false xs s ys ∙ one_more xs (slot s.row false) ys

longer : (xs : List Slot) (s : Slot) (k : ℕ) → k ≡ length xs → k + 1 ≡ length (xs ++ s ∷ [])
longer xs s k at = let many = length-append xs (s ∷ []) in omega (arith, at, many)

-- rows, all of them retracted
abbrev all_off : List Slot → List Slot
all_off ss = map (λ s. slot s.row false) ss

range_off : (ys xs : List Slot) (k : ℕ) → k ≡ length xs
    → retracted (range_with_len k (length ys)) (xs ++ ys) ≡ xs ++ all_off ys
unfolding retracted
range_off [] xs k at = refl
range_off (s ∷ ys) xs k at =
    ap (λ zs. retracted (range_with_len (k + 1) (length ys)) zs) (off_next xs s ys k at)
    ∙ range_off ys (xs ++ slot s.row false ∷ []) (k + 1) (longer xs (slot s.row false) k at)
    ∙ sym (one_more xs (slot s.row false) (all_off ys))

range_new : (rows : List (List Datum)) (xs : List Slot) (k : ℕ) → k ≡ length xs
    → CanRetract (range_with_len k (length rows)) (xs ++ map new_slot rows)
unfolding CanRetract
range_new [] xs k at = tt
range_new (r ∷ rs) xs k at =
    let P : List Slot → Type 0 = λ zs. CanRetract (range_with_len (k + 1) (length rs)) zs in (
      (r, there_next xs (new_slot r) (map new_slot rs) k at),
      subst P (sym (off_next xs (new_slot r) (map new_slot rs) k at))
          (range_new rs (xs ++ slot r false ∷ []) (k + 1) (longer xs (slot r false) k at)),
    )

abbrev same_last : ℕ → List Slot → List Slot → Type 0
same_last n xs ys = last_numbers n xs ≡ last_numbers n ys

last_same : (n : ℕ) (xs ys : List Slot) → length xs ≡ length ys → same_last n xs ys
last_same n xs ys long = ap (λ m. range_with_len (m - n) n) long

-- New rows can be retracted.
pub can_hide_new : (slots new : List Slot) (columns : List CheckedColumn) (n : ℕ)
    → new ≡ slots ++ map new_slot (batch_rows n columns) → CanRetract (last_numbers n new) new
can_hide_new slots new columns n is =
    let rows = batch_rows n columns in
    let counted = batch_counted columns n in
    let many = length-append slots (map new_slot rows) in
    let mapped = length-map rows new_slot in
    let long : length new ≡ length (slots ++ map new_slot rows) = ap length is in
    let first : length slots ≡ length new - n = omega (arith, counted, many, mapped, long) in
    let P : ℕ → Type 0 = λ k. CanRetract (range_with_len k n) (slots ++ map new_slot rows) in
    let Q : ℕ → Type 0 = λ m. CanRetract (range_with_len (length slots) m) (slots ++ map new_slot rows) in
    let R : List Slot → Type 0 = λ ss. CanRetract (last_numbers n new) ss in
    subst R (sym is) (subst P first (subst Q counted (range_new rows slots (length slots) refl)))

-- the last rows, retracted

abbrev rest : ℕ → List Slot → List Slot
rest n slots = drop (length slots - n) slots

rest_long : (n : ℕ) (slots : List Slot) → CanRevert n slots → length (rest n slots) ≡ n
unfolding CanRevert
rest_long n slots few = let many = length-drop (length slots - n) slots in omega (arith, many, few)

front_rest : (n : ℕ) (slots : List Slot) → reverted n slots ++ rest n slots ≡ slots
unfolding reverted
front_rest n slots = take-append-drop (length slots - n) slots

front_long : (n : ℕ) (slots : List Slot) → CanRevert n slots → length slots - n ≡ length (reverted n slots)
unfolding CanRevert
front_long n slots few =
    let tail = rest_long n slots few in
    let many = length-append (reverted n slots) (rest n slots) in
    let all : length (reverted n slots ++ rest n slots) ≡ length slots = ap length (front_rest n slots) in
    omega (arith, few, tail, many, all)

last_off : (n : ℕ) (slots : List Slot) → CanRevert n slots
    → retracted (last_numbers n slots) slots ≡ reverted n slots ++ all_off (rest n slots)
last_off n slots few =
    ap (λ m. retracted (range_with_len (length slots - n) m) slots) (sym (rest_long n slots few))
    ∙ ap (λ ss. retracted (range_with_len (length slots - n) (length (rest n slots))) ss) (sym (front_rest n slots))
    ∙ range_off (rest n slots) (reverted n slots) (length slots - n) (front_long n slots few)

-- rows in front of retracted ones

live_off : (ys : List Slot) → live (all_off ys) ≡ []
unfolding live
live_off [] = refl
live_off (y ∷ ys) = live_off ys

live_front : (xs ys : List Slot) → live (xs ++ all_off ys) ≡ live xs
unfolding live
live_front [] ys = live_off ys
live_front (x ∷ xs) ys = by x.live (live_front xs ys)
  where
    by : (b : Bool) → live (xs ++ all_off ys) ≡ live xs
        → (if b then x.row ∷ live (xs ++ all_off ys) else live (xs ++ all_off ys))
        ≡ (if b then x.row ∷ live xs else live xs)
    by true h = ap (λ rs. x.row ∷ rs) h
    by false h = h

marked_front : (b c : Bool) (xs ys : List Slot) (n : ℕ) → IsThere xs n c → marked b (xs ++ ys) n ≡ marked b xs n ++ ys
marked_front b c [] ys n there = absurd (none-some (slot there.0 c) there.1)
marked_front b c (x ∷ xs) ys zero there = refl
marked_front b c (x ∷ xs) ys (suc n) there = ap (λ zs. x ∷ zs) (marked_front b c xs ys n there)

row_front : (c : Bool) (xs ys : List Slot) (n : ℕ) → IsThere xs n c → row_of (xs ++ ys) n ≡ row_of xs n
row_front c [] ys n there = absurd (none-some (slot there.0 c) there.1)
row_front c (x ∷ xs) ys zero there = refl
row_front c (x ∷ xs) ys (suc n) there = row_front c xs ys n there

back_front : (t : Table) (ns : List ℕ) (xs ys : List Slot) → AreRetracted t ns xs
    → put_back ns (xs ++ ys) ≡ put_back ns xs ++ ys
unfolding put_back AreRetracted
back_front t [] xs ys are = refl
back_front t (n ∷ ns) xs ys are =
    ap (λ zs. marked true zs n) (back_front t ns xs ys are.0)
    ∙ marked_front true false (put_back ns xs) ys n are.1

live_back : (t : Table) (ns : List ℕ) (xs ys : List Slot) → AreRetracted t ns xs
    → live (put_back ns (xs ++ all_off ys)) ≡ live (put_back ns xs)
live_back t ns xs ys are = ap live (back_front t ns xs (all_off ys) are) ∙ live_front (put_back ns xs) ys

are_front : (t : Table) (ns : List ℕ) (xs ys : List Slot) → AreRetracted t ns xs → AreRetracted t ns (xs ++ all_off ys)
unfolding AreRetracted
are_front t [] xs ys are = tt
are_front t (n ∷ ns) xs ys are =
    let all : List Slot = xs ++ all_off ys in
    let split : put_back ns all ≡ put_back ns xs ++ all_off ys = back_front t ns xs (all_off ys) are.0 in
    let row : row_of all n ≡ row_of xs n =
    sym (row_put_back ns all n) ∙ ap (λ ss. row_of ss n) split
    ∙ row_front false (put_back ns xs) (all_off ys) n are.1 ∙ row_put_back ns xs n in
    let P : List Slot → Type 0 = λ ss. IsThere ss n false in (
      are_front t ns xs ys are.0,
      subst P (sym split) (are.1.0, at_more (put_back ns xs) (all_off ys) n (slot are.1.0 false) are.1.1),
      ap (λ r. is_among (key_in t r) (keys_in t (live (put_back ns all)))) row
          ∙ ap (λ rs. is_among (key_in t (row_of xs n)) (keys_in t rs)) (live_back t ns xs ys are.0) ∙ are.2,
      ap (λ r. is_null (key_in t r)) row ∙ are.3,
    )

can_front : (t : Table) (ns : List ℕ) (xs ys : List Slot) → CanPutBack t ns xs → CanPutBack t ns (xs ++ all_off ys)
unfolding CanPutBack
can_front t ns xs ys can =
    let P : List (List Datum) → Type 0 = λ rs. length rs ≤ t.max_rows in
    (are_front t ns xs ys can.0, subst P (sym (live_back t ns xs ys can.0)) can.1)

are_of : (t : Table) (ns : List ℕ) (slots : List Slot) → CanPutBack t ns slots → AreRetracted t ns slots
unfolding CanPutBack
are_of t ns slots can = can.0

taken_front : (n : ℕ) (xs ys : List Slot) → length ys ≡ n → reverted n (xs ++ ys) ≡ xs
unfolding reverted
taken_front n xs ys long =
    let many = length-append xs ys in
    let less : length (xs ++ ys) - n ≡ length xs = omega (arith, many, long) in
    ap (λ m. take m (xs ++ ys)) less ∙ take_front xs ys

-- a put that is hidden

module _ (t : Table) (n : ℕ) (ns : List ℕ) (slots : List Slot) where
  -- Once the last rows are retracted, the others can be restored.
  pub hide_can : CanUndoPut t n ns slots → CanPutBack t ns (retracted (last_numbers n slots) slots)
  hide_can can =
      let P : List Slot → Type 0 = λ ss. CanPutBack t ns ss in
      subst P (sym (last_off n slots can.0)) (can_front t ns (reverted n slots) (rest n slots) can.1)

  hidden_is : CanUndoPut t n ns slots → put_hidden n ns slots ≡ put_undone n ns slots ++ all_off (rest n slots)
  hidden_is can =
      ap (λ ss. put_back ns ss) (last_off n slots can.0)
      ∙ back_front t ns (reverted n slots) (all_off (rest n slots)) (are_of t ns (reverted n slots) can.1)

  pub hidden_live : CanUndoPut t n ns slots → live (put_hidden n ns slots) ≡ live (put_undone n ns slots)
  hidden_live can = ap live (hidden_is can) ∙ live_front (put_undone n ns slots) (rest n slots)

  pub hidden_long : length (put_hidden n ns slots) ≡ length slots
  hidden_long =
      length_put_back ns (retracted (last_numbers n slots) slots) ∙ length_retracted (last_numbers n slots) slots

  pub hidden_take : CanUndoPut t n ns slots → CanRevert n (put_hidden n ns slots)
  unfolding CanRevert
  hidden_take can = let long = hidden_long in let few = can.0 in omega (arith, long, few)

  pub hidden_taken : CanUndoPut t n ns slots → reverted n (put_hidden n ns slots) ≡ put_undone n ns slots
  hidden_taken can =
      ap (λ ss. reverted n ss) (hidden_is can)
      ∙ taken_front n (put_undone n ns slots) (all_off (rest n slots))
      (length-map (rest n slots) (λ s. slot s.row false) ∙ rest_long n slots can.0)

  hidden_off : CanUndoPut t n ns slots → retracted ns (put_hidden n ns slots) ≡ retracted (last_numbers n slots) slots
  hidden_off can =
      let off = retracted (last_numbers n slots) slots in retracted_again t ns off (are_of t ns off (hide_can can))

  hidden_last : same_last n (put_hidden n ns slots) slots
  hidden_last = last_same n (put_hidden n ns slots) slots hidden_long

  pub hidden_shown : CanUndoPut t n ns slots → put_shown n ns (put_hidden n ns slots) ≡ slots
  hidden_shown can =
      ap (λ ms. put_back ms (retracted ns (put_hidden n ns slots))) hidden_last
      ∙ ap (λ ss. put_back (last_numbers n slots) ss) (hidden_off can)
      ∙ put_back_undoes (last_numbers n slots) slots can.2

  pub hidden_can : CanUndoPut t n ns slots
      → CanPutBack t (last_numbers n slots) (retracted (last_numbers n slots) slots)
      → CanShowPut t n ns (put_hidden n ns slots)
  hidden_can can back =
      let off = retracted (last_numbers n slots) slots in
      let P : List ℕ → Type 0 = λ ms. CanPutBack t ms (retracted ns (put_hidden n ns slots)) in
      let Q : List Slot → Type 0 = λ ss. CanPutBack t (last_numbers n slots) ss in (
        hidden_take can,
        can_retract_again t ns off (are_of t ns off (hide_can can)),
        subst P (sym hidden_last) (subst Q (sym (hidden_off can)) back),
      )

  pub show_few : CanRevert n slots → CanRevert n (retracted ns slots)
  unfolding CanRevert
  show_few few = let long = length_retracted ns slots in omega (arith, long, few)
