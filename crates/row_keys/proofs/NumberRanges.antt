-- Consecutive numbers.
use Rattle.std.proofs.Common.{
  ◌≡◌,
  ℕ,
  zero,
  suc,
  [],
  ◌∷◌,
  ◌++◌,
  ◌+◌,
  ◌-◌,
  ◌<◌,
  ◌≤◌,
  All,
  List,
  add-one,
  ap,
  arith,
  length,
  subst,
  sym,
  ◌∙◌,
}
use Rattle.std.specs.List.{range_with_len}
use Rattle.std.proofs.lemmas.List.Elements.{All-from_get_or}
use Rattle.std.proofs.lemmas.List.FromFn.{get_or-range_with_len, length-range_with_len}
use Rattle.row_keys.specs.Slots.{Slot, last_numbers}

range_next : (a n : ℕ) → range_with_len a (suc n) ≡ range_with_len a n ++ (a + n) ∷ []
range_next a zero = ap (λ x. x ∷ []) (omega arith)
range_next a (suc n) =
    ap (λ xs. a ∷ xs) (range_next (a + 1) n ∙ ap (λ x. range_with_len (a + 1) n ++ x ∷ []) (omega arith))

pub range_more : (a n : ℕ) (old new : List ℕ) → old ≡ range_with_len a n → new ≡ old ++ (a + n) ∷ []
    → new ≡ range_with_len a (n + 1)
range_more a n old new so_far more =
    more ∙ ap (λ xs. xs ++ (a + n) ∷ []) so_far ∙ sym (range_next a n)
    ∙ ap (range_with_len a) (sym (add-one n))

-- The last rows exist.
there : (count : ℕ) (slots : List Slot) → count ≤ length slots
    → All (λ n. n < length slots) (last_numbers count slots)
there count slots few =
    All-from_get_or (λ n. n < length slots) (last_numbers count slots) 0 (λ i below.
    let long = length-range_with_len (length slots - count) count in
    let at = get_or-range_with_len (length slots - count) count i 0 (omega (arith, below, long)) in
    omega (arith, below, long, at, few))

pub last_there : (count : ℕ) (slots : List Slot) (numbers : List ℕ) → count ≤ length slots
    → numbers ≡ last_numbers count slots → All (λ n. n < length slots) numbers
last_there count slots numbers few last =
    subst (λ (ns : List ℕ). All (λ n. n < length slots) ns) (sym last) (there count slots few)
