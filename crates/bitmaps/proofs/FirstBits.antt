-- The first bits of a byte that are equal.
use Rattle.std.proofs.Common.{◌≡◌, ℕ, zero, suc, ◌+◌, ◌-◌, ◌/◌, ◌%◌, ◌^◌, ◌<◌, ◌≤◌, ◌==◌, List, [], ◌∷◌, refl, ap, sym, ◌∙◌, arith, inl, inr, w8, get_or}
use Rattle.std.specs.Prelude.{Bool, true, false, slice_index}
use Rattle.std.specs.Int.{bit_at as nth_bit, trailing_ones, trailing_zeros}
use Rattle.std.proofs.lemmas.Bool.{cases_lt}
use Rattle.std.proofs.lemmas.Nat.{trailing_le}
use Rattle.std.proofs.lemmas.Nat.Bits.{bit_at-trailing_zeros, bit_at-trailing_ones, bit_at-zero, bit_at_ones}
use Rattle.bitmaps.specs.Bits.{bit_at}

-- a bit below 8 is one of the byte
byte-bit : (b k : ℕ) → k < 8 → bit_at (b ∷ []) k ≡ (nth_bit b k == 1)
byte-bit b k below =
    let byte : k / 8 ≡ 0 = omega (arith, below) in
    let bit : k % 8 ≡ k = omega (arith, below) in
    ap (λ i. slice_index (b ∷ []) i / 2 ^ (k % 8) % 2 == 1) byte ∙ ap (λ i. b / 2 ^ i % 2 == 1) bit

bit-is : (b k n : ℕ) → k < 8 → nth_bit b k ≡ n → bit_at (b ∷ []) k ≡ (n == 1)
bit-is b k n below is = byte-bit b k below ∙ ap (λ m. m == 1) is

pub zeros-few : (b : ℕ) → trailing_zeros w8 b ≤ 8
zeros-few b = trailing_le 8 b

pub ones-few : (b : ℕ) → trailing_ones w8 b ≤ 8
ones-few b = trailing_le 8 (255 - b)

pub zeros-alike : (b k : ℕ) → b < 256 → k < trailing_zeros w8 b → bit_at (b ∷ []) k ≡ false
zeros-alike b k small below = elim (cases_lt 0 b) [
  | inl some ↦ let place = bit_at-trailing_zeros w8 b some small in
      bit-is b k 0 (omega (arith, below, zeros-few b)) (place.2 k below)
  | inr none ↦
      let zero-is : b ≡ 0 = omega (arith, none) in
      bit-is b k 0 (omega (arith, below, zeros-few b)) (ap (λ n. nth_bit n k) zero-is ∙ bit_at-zero k)
]

pub ones-alike : (b k : ℕ) → b < 256 → k < trailing_ones w8 b → bit_at (b ∷ []) k ≡ true
ones-alike b k small below = elim (cases_lt (b + 1) 256) [
  | inl some ↦ let place = bit_at-trailing_ones w8 b some in
      bit-is b k 1 (omega (arith, below, ones-few b)) (place.2 k below)
  | inr most ↦
      let all : b ≡ 255 = omega (arith, most, small) in
      let few : k < 8 = omega (arith, below, ones-few b) in
      bit-is b k 1 few (ap (λ n. nth_bit n k) all ∙ bit_at_ones 8 k few)
]

-- a run goes on
pub run-longer : (bs : List Bool) (bit : Bool) (from end more : ℕ)
    → ((k : ℕ) → from ≤ k → k < end → get_or bs k false ≡ bit)
    → ((k : ℕ) → k < more → get_or bs (end + k) false ≡ bit)
    → (k : ℕ) → from ≤ k → k < end + more → get_or bs k false ≡ bit
run-longer bs bit from end more before next k above below = elim (cases_lt k end) [
  | inl low ↦ before k above low
  | inr high ↦ ap (λ i. get_or bs i false) (omega (arith, high)) ∙ next (k - end) (omega (arith, below, high))
]

pub run-begins : (bs : List Bool) (bit : Bool) (from : ℕ) → bit ≡ get_or bs from false
    → (k : ℕ) → from ≤ k → k < from + 1 → get_or bs k false ≡ bit
run-begins bs bit from is k above below = ap (λ i. get_or bs i false) (omega (arith, above, below)) ∙ sym is

pub ruleset first_bits = (zeros-few, ones-few, zeros-alike, ones-alike)
