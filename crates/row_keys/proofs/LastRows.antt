-- Rows that are retracted from a number on, or made live.
use Rattle.std.proofs.Common.{
  ◌≡◌,
  ◌⊎◌,
  inl,
  inr,
  ℕ,
  zero,
  suc,
  ◌+◌,
  ◌-◌,
  ◌<◌,
  ◌≤◌,
  Bool,
  true,
  false,
  List,
  [],
  ◌∷◌,
  length,
  refl,
  ap,
  sym,
  subst,
  ◌∙◌,
  arith,
  ltb-true,
  ltb-false,
}
use Rattle.std.specs.Prelude.{nat_lt}
use Rattle.std.specs.List.{range_with_len}
use Rattle.values.specs.Datum.{Datum}
use Rattle.values.specs.declared.key.Key.{Key}
use Rattle.view_lang.specs.Config.{Table}
use Rattle.row_keys.specs.Numbers.{AreLive, CanRevive, CanTurnOn, IsAt, Numbered, revived, turned, turned_off}
use Rattle.row_keys.specs.Slots.{CanPutBack, CanRetract, CanRevert, last_numbers}
use Rattle.row_keys.specs.Stored.{IsStored, joined}
use Rattle.row_keys.proofs.JoinedNumbers.{keyed_length}
use Rattle.row_keys.proofs.StoreStates.{revive_can}
use Rattle.row_keys.proofs.TurnedRows.{are_live}

-- the numbers from one on
abbrev pub from : ℕ → ℕ → List ℕ
from k end = range_with_len k (end - k)

from_more : (k end : ℕ) → k < end → from k end ≡ k ∷ from (k + 1) end
from_more k end below = let one : end - k ≡ suc (end - (k + 1)) = omega (arith, below) in
    ap (λ m. range_with_len k m) one

from_end : (k end : ℕ) → end ≤ k → from k end ≡ []
from_end k end past = let none : end - k ≡ 0 = omega (arith, past) in ap (λ m. range_with_len k m) none

pub off_next : (k end : ℕ) (rows new all : List Numbered) → k < end → new ≡ turned false rows k
    → turned_off (from k end) rows ≡ all → turned_off (from (k + 1) end) new ≡ all
off_next k end rows new all below step h =
    ap (λ xs. turned_off (from (k + 1) end) xs) step ∙ sym (ap (λ ms. turned_off ms rows) (from_more k end below)) ∙ h

pub live_next : (k end : ℕ) (rows new : List Numbered) → k < end → new ≡ turned false rows k
    → AreLive (from k end) rows → ((key : Key) × IsAt rows k key true) × AreLive (from (k + 1) end) new
live_next k end rows new below step h =
    let P : List ℕ → Type 0 = λ ms. AreLive ms rows in
    let both : ((key : Key) × IsAt rows k key true) × AreLive (from (k + 1) end) (turned false rows k) =
    subst P (from_more k end below) h in
    let Q : List Numbered → Type 0 = λ xs. AreLive (from (k + 1) end) xs in
    (both.0, subst Q (sym step) both.1)

split : (a b : ℕ) (t : Bool) → nat_lt a b ≡ t → (a < b) ⊎ (b ≤ a)
split a b true e = inl (ltb-true a b e)
split a b false e = inr (ltb-false a b e)

-- What can be made live from a number on can be from a later one on.
can_later : (n a k m : ℕ) (rows : List Numbered) → a ≤ k → k + m ≡ a + n → CanRevive (range_with_len a n) rows
    → CanRevive (range_with_len k m) rows
can_later n a k zero rows above same h = tt
can_later zero a k (suc m) rows above same h = absurd (omega (arith, above, same))
can_later (suc n) a k (suc m) rows above same h = elim (split a k (nat_lt a k) refl) [
  | inl x ↦ can_later n (a + 1) k (suc m) rows (omega (arith, x)) (omega (arith, same)) h.0
  | inr x ↦
      let P : ℕ → Type 0 = λ b. CanRevive (range_with_len b (suc m)) rows in
      let Q : ℕ → Type 0 = λ b. CanRevive (range_with_len a b) rows in
      let here : a ≡ k = omega (arith, above, x) in
      let many : suc n ≡ suc m = omega (arith, same, here) in
      subst P here (subst Q many h)
]

can_from : (a k end : ℕ) (rows : List Numbered) → a ≤ k → k ≤ end → CanRevive (from a end) rows
    → CanRevive (from k end) rows
can_from a k end rows above within h =
    can_later (end - a) a k (end - k) rows above (omega (arith, above, within)) h

pub revive_this :
    (a k end : ℕ) (rows first : List Numbered) → a ≤ k → k < end → rows ≡ revived (from (k + 1) end) first
    → CanRevive (from a end) first → CanTurnOn rows k
revive_this a k end rows first above below h can =
    let Q : List ℕ → Type 0 = λ ms. CanRevive ms first in
    let R : List Numbered → Type 0 = λ xs. CanTurnOn xs k in
    let both : CanRevive (from (k + 1) end) first × CanTurnOn (revived (from (k + 1) end) first) k =
    subst Q (from_more k end below) (can_from a k end first above (omega (arith, below)) can) in
    subst R (sym h) both.1

pub revived_this : (k end : ℕ) (rows new first : List Numbered) → k < end → rows ≡ revived (from (k + 1) end) first
    → new ≡ turned true rows k → new ≡ revived (from k end) first
revived_this k end rows new first below h step =
    step ∙ ap (λ xs. turned true xs k) h ∙ sym (ap (λ ms. revived ms first) (from_more k end below))

pub revived_none : (end : ℕ) (rows : List Numbered) → rows ≡ revived (from end end) rows
revived_none end rows = sym (ap (λ ms. revived ms rows) (from_end end end (omega arith)))

-- The last numbers of a store are those from a number on.
pub from_last :
    (t : Table) (stored : List (List Datum)) (xs : List Numbered) (n len : ℕ)
    → IsStored t stored xs → CanRevert n (joined stored xs) → len ≡ length xs
    → from (len - n) (length xs) ≡ last_numbers n (joined stored xs)
unfolding CanRevert
from_last t stored xs n len is few long =
    let many = (keyed_length t stored xs is.keyed).1 in
    let first : len - n ≡ length (joined stored xs) - n = omega (arith, many, long) in
    let left : length xs - (len - n) ≡ n = omega (arith, many, long, few) in
    ap (λ k. range_with_len (len - n) k) left ∙ ap (λ k. range_with_len k n) first

module _ (t : Table) (stored : List (List Datum)) (xs : List Numbered) (n len : ℕ) where
  pub live_last : IsStored t stored xs → CanRevert n (joined stored xs) → len ≡ length xs
      → CanRetract (last_numbers n (joined stored xs)) (joined stored xs)
      → AreLive (from (len - n) (length xs)) xs
  live_last is few long can =
      let P : List ℕ → Type 0 = λ ms. AreLive ms xs in
      subst P (sym (from_last t stored xs n len is few long))
      (are_live t stored (last_numbers n (joined stored xs)) xs is.keyed can)

  pub revive_last : IsStored t stored xs → CanRevert n (joined stored xs) → len ≡ length xs
      → CanPutBack t (last_numbers n (joined stored xs)) (joined stored xs)
      → CanRevive (from (len - n) (length xs)) xs
  revive_last is few long can =
      let P : List ℕ → Type 0 = λ ms. CanRevive ms xs in
      subst P (sym (from_last t stored xs n len is few long))
      (revive_can t stored xs (last_numbers n (joined stored xs)) is can)
