-- The numbers of the live rows, where one more row was added.
use Rattle.std.proofs.Common.{
  ◌≡◌,
  ℕ,
  suc,
  ◌+◌,
  Bool,
  true,
  false,
  List,
  [],
  ◌∷◌,
  ◌++◌,
  length,
  ap,
  ◌∙◌,
  append-nil,
  arith,
}
use Rattle.std.specs.Map.{keys_of}
use Rattle.std.specs.Prelude.{if◌then◌else◌}
use Rattle.row_keys.specs.Numbered.{numbered, numbered_from}
use Rattle.row_keys.specs.Slots.{Slot}

-- the numbers of the live rows from i on
abbrev pub from : ℕ → List Slot → List ℕ
from i slots = keys_of (numbered_from i slots)

pub from_joined : (i : ℕ) (xs ys : List Slot) → from i (xs ++ ys) ≡ from i xs ++ from (length xs + i) ys
from_joined i [] ys = let e : i ≡ 0 + i = omega arith in ap (λ n. from n ys) e
from_joined i (s ∷ ss) ys =
    let e : length ss + suc i ≡ length (s ∷ ss) + i = omega arith in
    by s.live (from_joined (suc i) ss ys ∙ ap (λ n. from (suc i) ss ++ from n ys) e)
  where
    by : (b : Bool) → from (suc i) (ss ++ ys) ≡ from (suc i) ss ++ from (length (s ∷ ss) + i) ys
        → keys_of (if b then (i, s.row) ∷ numbered_from (suc i) (ss ++ ys) else numbered_from (suc i) (ss ++ ys))
        ≡ keys_of (if b then (i, s.row) ∷ numbered_from (suc i) ss else numbered_from (suc i) ss)
        ++ from (length (s ∷ ss) + i) ys
    by true h = ap (λ ns. i ∷ ns) h
    by false h = h

one_live : (i : ℕ) (s : Slot) → s.live ≡ true → from i (s ∷ []) ≡ i ∷ []
one_live i s h = ap (λ b. keys_of (if b then (i, s.row) ∷ [] else [])) h

none_live : (i : ℕ) (s : Slot) → s.live ≡ false → from i (s ∷ []) ≡ []
none_live i s h = ap (λ b. keys_of (if b then (i, s.row) ∷ [] else [])) h

pub number_more : (xs : List Slot) (s : Slot) (n : ℕ) → length xs ≡ n → s.live ≡ true
    → keys_of (numbered (xs ++ s ∷ [])) ≡ keys_of (numbered xs) ++ n ∷ []
number_more xs s n e h =
    let place : length xs + 0 ≡ n = omega (arith, e) in
    from_joined 0 xs (s ∷ []) ∙ ap (λ ns. from 0 xs ++ ns) (one_live (length xs + 0) s h)
    ∙ ap (λ m. from 0 xs ++ m ∷ []) place

pub number_same : (xs : List Slot) (s : Slot) → s.live ≡ false
    → keys_of (numbered (xs ++ s ∷ [])) ≡ keys_of (numbered xs)
number_same xs s h =
    from_joined 0 xs (s ∷ []) ∙ ap (λ ns. from 0 xs ++ ns) (none_live (length xs + 0) s h) ∙ append-nil (from 0 xs)
