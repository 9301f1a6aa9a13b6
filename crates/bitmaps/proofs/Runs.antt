-- Runs of bits.
use Rattle.std.proofs.Common.{
  ◌≡◌,
  ℕ,
  zero,
  suc,
  ◌+◌,
  ◌<◌,
  ◌≤◌,
  List,
  [],
  ◌∷◌,
  length,
  get_or,
  drop,
  refl,
  ap,
  ◌∙◌,
  arith,
}
use Rattle.std.specs.Prelude.{Bool, true, false, if◌then◌else◌, slice_get, Some, None}
use Rattle.std.proofs.lemmas.List.{drop_all, drop_more}
use Rattle.std.proofs.lemmas.Option.{slice_get-get_or, slice_get_past}
use Rattle.bitmaps.specs.Bits.{bit_at, bits_at, ones}

pub length-bits_at : (bytes : List ℕ) (i n : ℕ) → length (bits_at bytes i n) ≡ n
unfolding bits_at
length-bits_at bytes i zero = refl
length-bits_at bytes i (suc n) = ap suc (length-bits_at bytes (i + 1) n)

pub get_or-bits_at : (bytes : List ℕ) (i n k : ℕ) → k < n → get_or (bits_at bytes i n) k false ≡ bit_at bytes (i + k)
unfolding bits_at
get_or-bits_at bytes i zero k h = absurd (omega (arith, h))
get_or-bits_at bytes i (suc n) zero h = ap (bit_at bytes) (omega arith)
get_or-bits_at bytes i (suc n) (suc k) h =
    get_or-bits_at bytes (i + 1) n k (omega (arith, h)) ∙ ap (bit_at bytes) (omega arith)

pub ones-step : (bs : List Bool) (i : ℕ) → i < length bs
    → ones (drop i bs) ≡ (if get_or bs i false then 1 else 0) + ones (drop (i + 1) bs)
unfolding ones
ones-step bs i h = ap ones (drop_more bs i false h)

pub ones-le : (bs : List Bool) → ones bs ≤ length bs
unfolding ones
ones-le [] = omega arith
ones-le (true ∷ bs) = let rest = ones-le bs in omega (arith, rest)
ones-le (false ∷ bs) = let rest = ones-le bs in omega (arith, rest)

pub get-bits_at : (bytes : List ℕ) (i n k : ℕ) → k < n → slice_get (bits_at bytes i n) k ≡ Some (bit_at bytes (i + k))
get-bits_at bytes i n k h =
    let all = length-bits_at bytes i n in
    slice_get-get_or (bits_at bytes i n) k false (omega (arith, all, h)) ∙ ap Some (get_or-bits_at bytes i n k h)

pub get-past : (bytes : List ℕ) (i n k : ℕ) → n ≤ k → slice_get (bits_at bytes i n) k ≡ None
get-past bytes i n k h =
    let all = length-bits_at bytes i n in
    slice_get_past (bits_at bytes i n) k (omega (arith, all, h))

pub ones-end : (bs : List Bool) (i : ℕ) → length bs ≤ i → ones (drop i bs) ≡ 0
unfolding ones
ones-end bs i h = ap ones (drop_all i bs h)

pub ruleset runs = (ones-end, length-bits_at, get_or-bits_at, get-bits_at, get-past, ones-step, ones-le)
