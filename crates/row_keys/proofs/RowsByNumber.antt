-- The live row of each number, as slots are marked, inserted and deleted.
use Rattle.std.proofs.Common.{
  ◌≡◌,
  refl,
  ap,
  sym,
  ◌∙◌,
  subst,
  arith,
  ◌⊎◌,
  inl,
  inr,
  length-append,
  ltb-true,
  ltb-false,
  true≢false,
}
use Rattle.std.specs.Prelude.{
  ℕ,
  zero,
  suc,
  ◌+◌,
  ◌-◌,
  ◌<◌,
  ◌≤◌,
  Bool,
  true,
  false,
  cond,
  if◌then◌else◌,
  nat_lt,
  List,
  [],
  ◌∷◌,
  ◌++◌,
  map,
  Option,
  Some,
  None,
  get_or,
  length,
  take,
}
use Rattle.std.specs.declared.cmp.Ordering.TheVariants.{Less}
use Rattle.std.specs.Ordering.{eq_by_cmp, is_eq, nat_cmp}
use Rattle.std.specs.Cmp.{nat_cmp_total, nat_cmp_is, eq_by_cmp_equiv, tied_itself}
use Rattle.std.specs.List.{AllByRecursion, IsDistinct, range_with_len}
use Rattle.std.specs.List.Sorted.{IsStrictlySortedBy}
use Rattle.std.specs.Map.{keys_of, values_of}
use Rattle.std.proofs.lemmas.List.{length-map}
use Rattle.std.proofs.lemmas.Option.{none-some}
use Rattle.values.specs.Datum.{Datum}
use Rattle.view_lang.specs.Config.{Table}
use Rattle.view_lang.specs.Shifts.{row_at}
use Rattle.row_keys.specs.NumberLaws.{with_new}
use Rattle.row_keys.specs.Numbered.{live_at, live_row, numbered, numbered_from}
use Rattle.row_keys.specs.Slots.{
  AreRetracted,
  CanRetract,
  IsThere,
  Slot,
  live,
  marked,
  new_slot,
  no_slot,
  put_back,
  retracted,
  row_of,
  slot,
}
use Rattle.row_keys.proofs.NumberedChanges.{Up, is_named, is_same, same_is}
use Rattle.row_keys.proofs.Places.{some_same}
use Rattle.row_keys.proofs.RetractedRows.{row_marked}

-- numbers

abbrev Free : List Slot → ℕ → Type 0
Free slots n = live_at slots n ≡ None

abbrev pub Lives : List Slot → ℕ → Type 0
Lives slots n = live_at slots n ≡ Some (row_of slots n)

split : (a b : ℕ) (t : Bool) → nat_lt a b ≡ t → (a < b) ⊎ (b ≤ a)
split a b true e = inl (ltb-true a b e)
split a b false e = inr (ltb-false a b e)

either : (a b : ℕ) → (a < b) ⊎ (b ≤ a)
either a b = split a b (nat_lt a b) refl

pub same_self : (n : ℕ) → is_same n n ≡ true
same_self n = ap is_eq (tied_itself nat_cmp_total n)

same_if : (n m : ℕ) → n ≡ m → is_same n m ≡ true
same_if n m e = ap (λ y. is_same n y) (sym e) ∙ same_self n

differ_by : (n m : ℕ) → (n ≡ m → ⊥) → (b : Bool) → is_same n m ≡ b → is_same n m ≡ false
differ_by n m apart true e = absurd (apart (same_is n m e))
differ_by n m apart false e = e

differ : (n m : ℕ) → (n ≡ m → ⊥) → is_same n m ≡ false
differ n m apart = differ_by n m apart (is_same n m) refl

suc_by : (n m : ℕ) (b : Bool) → is_same n m ≡ b → is_same n m ≡ is_same (suc n) (suc m)
suc_by n m true e = e ∙ sym (same_if (suc n) (suc m) (ap suc (same_is n m e)))
suc_by n m false e =
    e ∙ sym (differ (suc n) (suc m) (λ x. absurd (true≢false (sym (same_if n m (omega (arith, x))) ∙ e))))

same_suc : (n m : ℕ) → is_same n m ≡ is_same (suc n) (suc m)
same_suc n m = suc_by n m (is_same n m) refl

abbrev none_row : Option (List Datum)
none_row = None

none_either : (b : Bool) → none_row ≡ cond b none_row none_row
none_either true = refl
none_either false = refl

all_of : (P : ℕ → Type 0) (ns : List ℕ) → ((n : ℕ) → P n) → AllByRecursion P ns
all_of P [] h = tt
all_of P (n ∷ ns) h = (h n, all_of P ns h)

-- the live rows by their numbers

above : (a n : ℕ) (slots : List Slot) → a < n
    → AllByRecursion (λ m. nat_cmp a m ≡ Less) (keys_of (numbered_from n slots))
above a n [] h = tt
above a n (s ∷ ss) h = by s.live (sym (nat_cmp_is a n Less h)) (above a (suc n) ss (omega (arith, h)))
  where
    by : (b : Bool) → nat_cmp a n ≡ Less
        → AllByRecursion (λ m. nat_cmp a m ≡ Less) (keys_of (numbered_from (suc n) ss))
        → AllByRecursion (λ m. nat_cmp a m ≡ Less)
        (keys_of (if b then (n, s.row) ∷ numbered_from (suc n) ss else numbered_from (suc n) ss))
    by true l r = (l, r)
    by false l r = r

pub numbered_up : (n : ℕ) (slots : List Slot) → Up (numbered_from n slots)
unfolding IsStrictlySortedBy
numbered_up n [] = tt
numbered_up n (s ∷ ss) = by s.live (above n (suc n) ss (omega arith)) (numbered_up (suc n) ss)
  where
    by : (b : Bool) → AllByRecursion (λ m. nat_cmp n m ≡ Less) (keys_of (numbered_from (suc n) ss))
        → Up (numbered_from (suc n) ss)
        → Up (if b then (n, s.row) ∷ numbered_from (suc n) ss else numbered_from (suc n) ss)
    by true l r = (l, r)
    by false l r = r

pub numbered_live : (n : ℕ) (slots : List Slot) → values_of (numbered_from n slots) ≡ live slots
unfolding live
numbered_live n [] = refl
numbered_live n (s ∷ ss) = by s.live (numbered_live (suc n) ss)
  where
    by : (b : Bool) → values_of (numbered_from (suc n) ss) ≡ live ss
        → values_of (if b then (n, s.row) ∷ numbered_from (suc n) ss else numbered_from (suc n) ss)
        ≡ (if b then s.row ∷ live ss else live ss)
    by true h = ap (λ rs. s.row ∷ rs) h
    by false h = h

none_before : (m n : ℕ) (slots : List Slot) → m < n → row_at m (numbered_from n slots) ≡ None
none_before m n [] h = refl
none_before m n (s ∷ ss) h =
    by s.live (differ m n (λ e. omega (arith, h, e))) (none_before m (suc n) ss (omega (arith, h)))
  where
    by : (b : Bool) → is_same m n ≡ false → row_at m (numbered_from (suc n) ss) ≡ None
        → row_at m (if b then (n, s.row) ∷ numbered_from (suc n) ss else numbered_from (suc n) ss) ≡ None
    by true e r = ap (λ b. cond b (Some s.row) (row_at m (numbered_from (suc n) ss))) e ∙ r
    by false e r = r

at_from : (slots : List Slot) (n i m : ℕ) → m ≡ n + i → row_at m (numbered_from n slots) ≡ live_at slots i
at_from [] n i m e = refl
at_from (s ∷ ss) n zero m e =
    by s.live (same_if m n (omega (arith, e))) (none_before m (suc n) ss (omega (arith, e)))
  where
    by : (b : Bool) → is_same m n ≡ true → row_at m (numbered_from (suc n) ss) ≡ None
        → row_at m (if b then (n, s.row) ∷ numbered_from (suc n) ss else numbered_from (suc n) ss)
        ≡ (if b then Some s.row else None)
    by true x r = ap (λ b. cond b (Some s.row) (row_at m (numbered_from (suc n) ss))) x
    by false x r = r
at_from (s ∷ ss) n (suc i) m e =
    by s.live (differ m n (λ x. omega (arith, e, x))) (at_from ss (suc n) i m (omega (arith, e)))
  where
    by : (b : Bool) → is_same m n ≡ false → row_at m (numbered_from (suc n) ss) ≡ live_at ss i
        → row_at m (if b then (n, s.row) ∷ numbered_from (suc n) ss else numbered_from (suc n) ss) ≡ live_at ss i
    by true x r = ap (λ b. cond b (Some s.row) (row_at m (numbered_from (suc n) ss))) x ∙ r
    by false x r = r

pub at_numbered : (slots : List Slot) (m : ℕ) → row_at m (numbered slots) ≡ live_at slots m
at_numbered slots m = at_from slots 0 m m (omega arith)

-- slots that are marked

pub marked_off : (slots : List Slot) (n m : ℕ)
    → live_at (marked false slots n) m ≡ cond (is_same n m) None (live_at slots m)
marked_off [] n m = none_either (is_same n m)
marked_off (s ∷ ss) zero zero = refl
marked_off (s ∷ ss) zero (suc m) =
    sym (ap (λ b. cond b None (live_at ss m)) (differ zero (suc m) (λ e. omega (arith, e))))
marked_off (s ∷ ss) (suc n) zero =
    sym (ap (λ b. cond b None (live_row s)) (differ (suc n) zero (λ e. omega (arith, e))))
marked_off (s ∷ ss) (suc n) (suc m) =
    marked_off ss n m ∙ ap (λ b. cond b None (live_at ss m)) (same_suc n m)

marked_on : (b : Bool) (slots : List Slot) (n m : ℕ) → IsThere slots n b
    → live_at (marked true slots n) m ≡ cond (is_same n m) (Some (row_of slots m)) (live_at slots m)
marked_on b [] n m there = absurd (none-some (slot there.0 b) there.1)
marked_on b (s ∷ ss) zero zero there = refl
marked_on b (s ∷ ss) zero (suc m) there =
    sym (ap (λ x. cond x (Some (row_of ss m)) (live_at ss m)) (differ zero (suc m) (λ e. omega (arith, e))))
marked_on b (s ∷ ss) (suc n) zero there =
    sym (ap (λ x. cond x (Some s.row) (live_row s)) (differ (suc n) zero (λ e. omega (arith, e))))
marked_on b (s ∷ ss) (suc n) (suc m) there =
    marked_on b ss n m there ∙ ap (λ x. cond x (Some (row_of ss m)) (live_at ss m)) (same_suc n m)

there_is : (b : Bool) (slots : List Slot) (n : ℕ) → IsThere slots n b
    → live_at slots n ≡ (if b then Some (row_of slots n) else None)
there_is b [] n there = absurd (none-some (slot there.0 b) there.1)
there_is b (s ∷ ss) zero there =
    let P : Slot → Type 0 = λ x. live_row x ≡ (if b then Some x.row else None) in
    subst P (sym (some_same s (slot there.0 b) there.1)) refl
there_is b (s ∷ ss) (suc n) there = there_is b ss n there

row_put_back : (ns : List ℕ) (slots : List Slot) (m : ℕ) → row_of (put_back ns slots) m ≡ row_of slots m
unfolding put_back
row_put_back [] slots m = refl
row_put_back (n ∷ ns) slots m = row_marked true (put_back ns slots) n m ∙ row_put_back ns slots m

-- rows that are retracted

none_twice : (p q : Bool) (o : Option (List Datum)) → cond q None (cond p None o) ≡ cond (cond p true q) None o
none_twice true q o = sym (none_either q)
none_twice false q o = refl

pub at_retracted : (ns : List ℕ) (slots : List Slot) (m : ℕ)
    → live_at (retracted ns slots) m ≡ cond (is_named m ns) None (live_at slots m)
unfolding retracted
at_retracted [] slots m = refl
at_retracted (n ∷ ns) slots m =
    at_retracted ns (marked false slots n) m ∙ ap (λ o. cond (is_named m ns) None o) (marked_off slots n m)
    ∙ none_twice (is_same n m) (is_named m ns) (live_at slots m)

other_one : (slots : List Slot) (n m : ℕ) → Free slots n → IsThere slots m true → (b : Bool) → is_same n m ≡ b
    → is_same n m ≡ false
other_one slots n m free there true e =
    absurd (none-some (row_of slots m)
    (sym free ∙ ap (λ k. live_at slots k) (same_is n m e) ∙ there_is true slots m there))
other_one slots n m free there false e = e

others_retracted : (n : ℕ) (ns : List ℕ) (slots : List Slot) → Free slots n → CanRetract ns slots
    → AllByRecursion (λ m. eq_by_cmp nat_cmp n m ≡ false) ns
unfolding CanRetract
others_retracted n [] slots free can = tt
others_retracted n (m ∷ ms) slots free can = (
  other_one slots n m free can.0 (is_same n m) refl,
  others_retracted n ms (marked false slots m)
      (marked_off slots m n ∙ ap (λ o. cond (is_same m n) None o) free ∙ sym (none_either (is_same m n))) can.1,
)

pub distinct_retracted : (ns : List ℕ) (slots : List Slot) → CanRetract ns slots → IsDistinct (eq_by_cmp nat_cmp) ns
unfolding CanRetract IsDistinct
distinct_retracted [] slots can = tt
distinct_retracted (n ∷ ns) slots can = (
  others_retracted n ns (marked false slots n)
      (marked_off slots n n ∙ ap (λ b. cond b None (live_at slots n)) (same_self n)) can.1,
  distinct_retracted ns (marked false slots n) can.1,
)

some_of : (b : Bool) (o : Option (List Datum)) (r : List Datum) → cond b None o ≡ Some r → o ≡ Some r
some_of true o r h = absurd (none-some r h)
some_of false o r h = h

lived_before : (slots : List Slot) (n : ℕ) (ms : List ℕ) → AllByRecursion (Lives (marked false slots n)) ms
    → AllByRecursion (Lives slots) ms
lived_before slots n [] h = tt
lived_before slots n (m ∷ ms) h = (
  some_of (is_same n m) (live_at slots m) (row_of slots m)
      (sym (marked_off slots n m) ∙ h.0 ∙ ap Some (row_marked false slots n m)),
  lived_before slots n ms h.1,
)

pub retracted_lived : (ns : List ℕ) (slots : List Slot) → CanRetract ns slots → AllByRecursion (Lives slots) ns
unfolding CanRetract
retracted_lived [] slots can = tt
retracted_lived (n ∷ ns) slots can =
    (there_is true slots n can.0, lived_before slots n ns (retracted_lived ns (marked false slots n) can.1))

-- rows that are restored

some_twice : (p q : Bool) (r o : Option (List Datum)) → cond p r (cond q r o) ≡ cond (cond p true q) r o
some_twice true q r o = refl
some_twice false q r o = refl

pub at_put_back : (t : Table) (ns : List ℕ) (slots : List Slot) (m : ℕ) → AreRetracted t ns slots
    → live_at (put_back ns slots) m ≡ cond (is_named m ns) (Some (row_of slots m)) (live_at slots m)
unfolding put_back AreRetracted
at_put_back t [] slots m are = refl
at_put_back t (n ∷ ns) slots m are =
    marked_on false (put_back ns slots) n m are.1
    ∙ ap (λ r. cond (is_same n m) (Some r) (live_at (put_back ns slots) m)) (row_put_back ns slots m)
    ∙ ap (λ o. cond (is_same n m) (Some (row_of slots m)) o) (at_put_back t ns slots m are.0)
    ∙ some_twice (is_same n m) (is_named m ns) (Some (row_of slots m)) (live_at slots m)

unnamed : (q : Bool) (r : List Datum) (o : Option (List Datum)) → cond q (Some r) o ≡ None → (q ≡ false) × (o ≡ None)
unnamed true r o h = absurd (none-some r (sym h))
unnamed false r o h = (refl, h)

neither : (p q : Bool) → cond p true q ≡ false → (p ≡ false) × (q ≡ false)
neither true q h = absurd (true≢false h)
neither false q h = (refl, h)

others_named : (n : ℕ) (ns : List ℕ) → is_named n ns ≡ false → AllByRecursion (λ m. eq_by_cmp nat_cmp n m ≡ false) ns
others_named n [] h = tt
others_named n (m ∷ ms) h =
    let a = neither (is_same m n) (is_named n ms) h in
    ((eq_by_cmp_equiv nat_cmp_total).symm n m ∙ a.0, others_named n ms a.1)

free_once : (t : Table) (n : ℕ) (ns : List ℕ) (slots : List Slot) → AreRetracted t ns slots
    → IsThere (put_back ns slots) n false → (is_named n ns ≡ false) × Free slots n
free_once t n ns slots are there =
    unnamed (is_named n ns) (row_of slots n) (live_at slots n)
    (sym (at_put_back t ns slots n are) ∙ there_is false (put_back ns slots) n there)

pub distinct_put_back : (t : Table) (ns : List ℕ) (slots : List Slot) → AreRetracted t ns slots
    → IsDistinct (eq_by_cmp nat_cmp) ns
unfolding AreRetracted IsDistinct
distinct_put_back t [] slots are = tt
distinct_put_back t (n ∷ ns) slots are =
    (others_named n ns (free_once t n ns slots are.0 are.1).0, distinct_put_back t ns slots are.0)

pub put_back_free : (t : Table) (ns : List ℕ) (slots : List Slot) → AreRetracted t ns slots
    → AllByRecursion (λ n. row_at n (numbered slots) ≡ None) ns
unfolding AreRetracted
put_back_free t [] slots are = tt
put_back_free t (n ∷ ns) slots are =
    (at_numbered slots n ∙ (free_once t n ns slots are.0 are.1).1, put_back_free t ns slots are.0)

-- consecutive numbers

range_before : (m a n : ℕ) → m < a → is_named m (range_with_len a n) ≡ false
range_before m a zero h = refl
range_before m a (suc n) h =
    ap (λ b. cond b true (is_named m (range_with_len (a + 1) n))) (differ a m (λ e. omega (arith, h, e)))
    ∙ range_before m (a + 1) n (omega (arith, h))

range_after : (m a n : ℕ) → a + n ≤ m → is_named m (range_with_len a n) ≡ false
range_after m a zero h = refl
range_after m a (suc n) h =
    ap (λ b. cond b true (is_named m (range_with_len (a + 1) n))) (differ a m (λ e. omega (arith, h, e)))
    ∙ range_after m (a + 1) n (omega (arith, h))

true_either : (b : Bool) → cond b true true ≡ true
true_either true = refl
true_either false = refl

range_within : (m a n : ℕ) → a ≤ m → m < a + n → is_named m (range_with_len a n) ≡ true
range_within m a zero l h = absurd (omega (arith, l, h))
range_within m a (suc n) l h = elim (either a m) [
  | inl x ↦ ap (λ q. cond (is_same a m) true q) (range_within m (a + 1) n (omega (arith, x)) (omega (arith, h)))
      ∙ true_either (is_same a m)
  | inr x ↦ ap (λ b. cond b true (is_named m (range_with_len (a + 1) n))) (same_if a m (omega (arith, l, x)))
]

range_others : (k a n : ℕ) → k < a → AllByRecursion (λ m. eq_by_cmp nat_cmp k m ≡ false) (range_with_len a n)
range_others k a zero h = tt
range_others k a (suc n) h =
    (differ k a (λ e. omega (arith, h, e)), range_others k (a + 1) n (omega (arith, h)))

pub distinct_range : (a n : ℕ) → IsDistinct (eq_by_cmp nat_cmp) (range_with_len a n)
unfolding IsDistinct
distinct_range a zero = tt
distinct_range a (suc n) = (range_others a (a + 1) n (omega arith), distinct_range (a + 1) n)

-- new rows

past_end : (slots : List Slot) (m : ℕ) → length slots ≤ m → Free slots m
past_end [] m h = refl
past_end (s ∷ ss) zero h = absurd (omega (arith, h))
past_end (s ∷ ss) (suc m) h = past_end ss m (omega (arith, h))

pub range_free : (slots : List Slot) (a n : ℕ) → length slots ≤ a
    → AllByRecursion (λ m. row_at m (numbered slots) ≡ None) (range_with_len a n)
range_free slots a zero h = tt
range_free slots a (suc n) h =
    (at_numbered slots a ∙ past_end slots a h, range_free slots (a + 1) n (omega (arith, h)))

at_old : (xs ys : List Slot) (m : ℕ) → m < length xs → get_or (xs ++ ys) m no_slot ≡ get_or xs m no_slot
at_old [] ys m h = absurd (omega (arith, h))
at_old (x ∷ xs) ys zero h = refl
at_old (x ∷ xs) ys (suc m) h = at_old xs ys m (omega (arith, h))

at_new : (xs ys : List Slot) (m i : ℕ) → m ≡ length xs + i → get_or (xs ++ ys) m no_slot ≡ get_or ys i no_slot
at_new [] ys m i e = let same : m ≡ i = omega (arith, e) in ap (λ k. get_or ys k no_slot) same
at_new (x ∷ xs) ys zero i e = absurd (omega (arith, e))
at_new (x ∷ xs) ys (suc m) i e = at_new xs ys m i (omega (arith, e))

new_lives : (rows : List (List Datum)) (i : ℕ) → i < length rows → (get_or (map new_slot rows) i no_slot).live ≡ true
new_lives [] i h = absurd (omega (arith, h))
new_lives (r ∷ rs) zero h = refl
new_lives (r ∷ rs) (suc i) h = new_lives rs i (omega (arith, h))

lives_if : (slots : List Slot) (m : ℕ) → (get_or slots m no_slot).live ≡ true → Lives slots m
lives_if slots m h = ap (λ b. if b then Some (row_of slots m) else None) h

pub at_appended : (slots : List Slot) (rows : List (List Datum)) (m : ℕ)
    → live_at (with_new slots rows) m
    ≡ cond (is_named m (range_with_len (length slots) (length rows))) (Some (row_of (with_new slots rows) m))
    (live_at slots m)
at_appended slots rows m =
    let all : List Slot = with_new slots rows in
    let long : length all ≡ length slots + length rows =
    length-append slots (map new_slot rows) ∙ ap (λ n. length slots + n) (length-map rows new_slot) in
    elim (either m (length slots)) [
      | inl x ↦ ap live_row (at_old slots (map new_slot rows) m x)
          ∙ sym (ap (λ b. cond b (Some (row_of all m)) (live_at slots m))
          (range_before m (length slots) (length rows) x))
      | inr x ↦ elim (either m (length slots + length rows)) [
        | inl y ↦ lives_if all m
            (ap (λ s. s.live) (at_new slots (map new_slot rows) m (m - length slots) (omega (arith, x)))
            ∙ new_lives rows (m - length slots) (omega (arith, x, y)))
            ∙ sym (ap (λ b. cond b (Some (row_of all m)) (live_at slots m))
            (range_within m (length slots) (length rows) x y))
        | inr y ↦ past_end all m (omega (arith, long, y)) ∙ sym (past_end slots m x)
            ∙ sym (ap (λ b. cond b (Some (row_of all m)) (live_at slots m))
            (range_after m (length slots) (length rows) y))
      ]
    ]

-- rows that are reverted

in_front : (slots : List Slot) (k m : ℕ) → m < k → get_or (take k slots) m no_slot ≡ get_or slots m no_slot
in_front [] zero m h = refl
in_front [] (suc k) m h = refl
in_front (s ∷ ss) zero m h = absurd (omega (arith, h))
in_front (s ∷ ss) (suc k) zero h = refl
in_front (s ∷ ss) (suc k) (suc m) h = in_front ss k m (omega (arith, h))

cut_off : (slots : List Slot) (k m : ℕ) → k ≤ m → Free (take k slots) m
cut_off [] zero m h = refl
cut_off [] (suc k) m h = refl
cut_off (s ∷ ss) zero m h = refl
cut_off (s ∷ ss) (suc k) zero h = absurd (omega (arith, h))
cut_off (s ∷ ss) (suc k) (suc m) h = cut_off ss k m (omega (arith, h))

pub at_reverted : (n : ℕ) (slots : List Slot) (m : ℕ) → n ≤ length slots
    → live_at (take (length slots - n) slots) m
    ≡ cond (is_named m (range_with_len (length slots - n) n)) None (live_at slots m)
at_reverted n slots m few = elim (either m (length slots - n)) [
  | inl x ↦ ap live_row (in_front slots (length slots - n) m x)
      ∙ sym (ap (λ b. cond b None (live_at slots m)) (range_before m (length slots - n) n x))
  | inr x ↦ cut_off slots (length slots - n) m x ∙ elim (either m (length slots)) [
    | inl y ↦ sym (ap (λ b. cond b None (live_at slots m))
        (range_within m (length slots - n) n x (omega (arith, few, y))))
    | inr y ↦ sym (past_end slots m y)
        ∙ sym (ap (λ b. cond b None (live_at slots m)) (range_after m (length slots - n) n (omega (arith, few, y))))
  ]
]

-- all live rows

abbrev found : Option (List Datum) → Bool
found None = false
found (Some r) = true

named_keys : (es : List (ℕ × List Datum)) (m : ℕ) → is_named m (keys_of es) ≡ found (row_at m es)
named_keys [] m = refl
named_keys (e ∷ es) m =
    ap (λ b. cond b true (is_named m (keys_of es))) ((eq_by_cmp_equiv nat_cmp_total).symm e.0 m)
    ∙ ap (λ q. cond (is_same m e.0) true q) (named_keys es m) ∙ by (is_same m e.0)
  where
    by : (b : Bool) → cond b true (found (row_at m es)) ≡ found (cond b (Some e.1) (row_at m es))
    by true = refl
    by false = refl

found_row : (s : Slot) → live_row s ≡ cond (found (live_row s)) (Some s.row) None
found_row s = by s.live
  where
    by : (b : Bool) → (if b then Some s.row else None) ≡ cond (found (if b then Some s.row else None)) (Some s.row) None
    by true = refl
    by false = refl

pub at_all : (slots : List Slot) (m : ℕ)
    → live_at slots m ≡ cond (is_named m (keys_of (numbered slots))) (Some (row_of slots m)) None
at_all slots m =
    found_row (get_or slots m no_slot)
    ∙ sym (ap (λ o. cond (found o) (Some (row_of slots m)) None) (at_numbered slots m))
    ∙ sym (ap (λ b. cond b (Some (row_of slots m)) None) (named_keys (numbered slots) m))

pub all_free : (ns : List ℕ) → AllByRecursion (λ n. row_at n [] ≡ None) ns
all_free ns = all_of (λ n. row_at n [] ≡ None) ns (λ n. refl)

pub all_numbered : (slots : List Slot) (ns : List ℕ)
    → AllByRecursion (λ n. row_at n (numbered slots) ≡ live_at slots n) ns
all_numbered slots ns = all_of (λ n. row_at n (numbered slots) ≡ live_at slots n) ns (λ n. at_numbered slots n)
