-- The numbers of all live rows, one after another.
use Rattle.std.proofs.Common.{
  ◌≡◌,
  ℕ,
  zero,
  suc,
  ◌+◌,
  ◌<◌,
  ◌≤◌,
  Bool,
  true,
  false,
  List,
  [],
  ◌∷◌,
  ◌++◌,
  All,
  length,
  take,
  get_or,
  map,
  refl,
  ap,
  sym,
  subst,
  ◌∙◌,
  arith,
  append-nil,
}
use Rattle.std.specs.Map.{keys_of}
use Rattle.std.specs.Prelude.{if◌then◌else◌}
use Rattle.std.proofs.Math.Seq.{take-suc}
use Rattle.std.proofs.lemmas.List.{map-append}
use Rattle.std.proofs.lemmas.List.Elements.{All-nil, All-push}
use Rattle.row_keys.specs.Numbered.{numbered}
use Rattle.row_keys.specs.Slots.{Slot, live, no_slot, row_of}
use Rattle.row_keys.proofs.LiveNumbers.{number_more, number_same}

live_joined : (xs ys : List Slot) → live (xs ++ ys) ≡ live xs ++ live ys
unfolding live
live_joined [] ys = refl
live_joined (s ∷ ss) ys = by s.live (live_joined ss ys)
  where
    by : (b : Bool) → live (ss ++ ys) ≡ live ss ++ live ys
        → (if b then s.row ∷ live (ss ++ ys) else live (ss ++ ys)) ≡ (if b then s.row ∷ live ss else live ss) ++ live ys
    by true h = ap (λ rs. s.row ∷ rs) h
    by false h = h

live_one : (s : Slot) → s.live ≡ true → live (s ∷ []) ≡ s.row ∷ []
unfolding live
live_one s h = ap (λ b. if b then s.row ∷ [] else []) h

live_none : (s : Slot) → s.live ≡ false → live (s ∷ []) ≡ []
unfolding live
live_none s h = ap (λ b. if b then s.row ∷ [] else []) h

one_more : (slots : List Slot) (n : ℕ) → n < length slots
    → take (n + 1) slots ≡ take n slots ++ get_or slots n no_slot ∷ []
one_more slots n below = let e : n + 1 ≡ suc n = omega arith in
    ap (λ m. take m slots) e ∙ take-suc slots n no_slot below

taken_length : (slots : List Slot) (n : ℕ) → n < length slots → length (take n slots) ≡ n
taken_length [] n h = absurd (omega (arith, h))
taken_length (s ∷ ss) zero h = refl
taken_length (s ∷ ss) (suc n) h = ap suc (taken_length ss n (omega (arith, h)))

taken_live : (slots : List Slot) (n : ℕ) → n < length slots → (get_or slots n no_slot).live ≡ true
    → live (take (n + 1) slots) ≡ live (take n slots) ++ row_of slots n ∷ []
taken_live slots n below h =
    ap live (one_more slots n below) ∙ live_joined (take n slots) (get_or slots n no_slot ∷ [])
    ∙ ap (λ rs. live (take n slots) ++ rs) (live_one (get_or slots n no_slot) h)

taken_dead : (slots : List Slot) (n : ℕ) → n < length slots → (get_or slots n no_slot).live ≡ false
    → live (take (n + 1) slots) ≡ live (take n slots)
taken_dead slots n below h =
    ap live (one_more slots n below) ∙ live_joined (take n slots) (get_or slots n no_slot ∷ [])
    ∙ ap (λ rs. live (take n slots) ++ rs) (live_none (get_or slots n no_slot) h)
    ∙ append-nil (live (take n slots))

-- the numbers of the live rows below number n
pub record Listed (slots : List Slot) (n : ℕ) (numbers : List ℕ) : Type 0 where
  pub numbered_are : numbers ≡ keys_of (numbered (take n slots))
  pub are : map (row_of slots) numbers ≡ live (take n slots)
  pub there : All (λ m. m < length slots) numbers

none_taken : (slots : List Slot) → live (take 0 slots) ≡ []
unfolding live
none_taken [] = refl
none_taken (s ∷ ss) = refl

no_numbers : (slots : List Slot) → keys_of (numbered (take 0 slots)) ≡ []
no_numbers [] = refl
no_numbers (s ∷ ss) = refl

pub listed_none : (slots : List Slot) → Listed slots 0 []
listed_none slots = record {
  numbered_are = sym (no_numbers slots);
  are = sym (none_taken slots);
  there = All-nil (λ m. m < length slots);
}

pub listed_more :
    (slots : List Slot) (n : ℕ) (numbers : List ℕ) → Listed slots n numbers → n < length slots
    → (get_or slots n no_slot).live ≡ true → Listed slots (n + 1) (numbers ++ n ∷ [])
listed_more slots n numbers l below lives = record {
  numbered_are = ap (λ ns. ns ++ n ∷ []) l.numbered_are
      ∙ sym (ap (λ ss. keys_of (numbered ss)) (one_more slots n below)
      ∙ number_more (take n slots) (get_or slots n no_slot) n (taken_length slots n below) lives);
  are = map-append (row_of slots) numbers (n ∷ []) ∙ ap (λ rs. rs ++ row_of slots n ∷ []) l.are
      ∙ sym (taken_live slots n below lives);
  there = All-push (λ m. m < length slots) numbers n l.there below;
}

pub listed_same :
    (slots : List Slot) (n : ℕ) (numbers : List ℕ) → Listed slots n numbers → n < length slots
    → (get_or slots n no_slot).live ≡ false → Listed slots (n + 1) numbers
listed_same slots n numbers l below dead = record {
  numbered_are = l.numbered_are
      ∙ sym (ap (λ ss. keys_of (numbered ss)) (one_more slots n below)
      ∙ number_same (take n slots) (get_or slots n no_slot) dead);
  are = l.are ∙ sym (taken_dead slots n below dead);
  there = l.there;
}

-- numbers of rows that aren't live are skipped
pub listed_over :
    (slots : List Slot) (n k m : ℕ) (numbers : List ℕ) → n + k ≡ m → Listed slots n numbers → m ≤ length slots
    → ((i : ℕ) → n ≤ i → i < m → (get_or slots i no_slot).live ≡ false) → Listed slots m numbers
listed_over slots n zero m numbers is l within dead =
    subst (λ (i : ℕ). Listed slots i numbers) (omega (arith, is)) l
listed_over slots n (suc k) m numbers is l within dead =
    listed_over slots (n + 1) k m numbers (omega (arith, is))
    (listed_same slots n numbers l (omega (arith, is, within)) (dead n (omega arith) (omega (arith, is)))) within
    (λ i above below. dead i (omega (arith, above)) below)

all_taken : (slots : List Slot) (n : ℕ) → length slots ≤ n → take n slots ≡ slots
all_taken [] zero h = refl
all_taken [] (suc n) h = refl
all_taken (s ∷ ss) zero h = absurd (omega (arith, h))
all_taken (s ∷ ss) (suc n) h = ap (λ xs. s ∷ xs) (all_taken ss n (omega (arith, h)))
