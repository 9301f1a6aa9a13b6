-- The bits of a byte that are 1.
use Rattle.std.proofs.Common.{◌≡◌, ℕ, zero, suc, ◌+◌, ◌-◌, ◌/◌, ◌%◌, ◌^◌, ◌<◌, ◌≤◌, List, refl, ap, sym, ◌∙◌, arith}
use Rattle.std.specs.Prelude.{Bool, true, false, if◌then◌else◌, slice_index, ◌==◌}
use Rattle.std.specs.Int.Count.{ones as count_ones}
use Rattle.std.proofs.lemmas.Bool.{agree_below_at}
use Rattle.std.proofs.lemmas.Bool.Decides.{nat_tests}
use Rattle.bitmaps.specs.Bits.{bit_at, bits_at, ones}

-- how many of k bits of the byte b are 1, the first of them bit j
abbrev ones_from : ℕ → ℕ → ℕ → ℕ
ones_from b j zero = 0
ones_from b j (suc k) = (if b / 2 ^ j % 2 == 1 then 1 else 0) + ones_from b (j + 1) k

byte_counts : (b : ℕ) → b < 256 → count_ones b ≡ ones_from b 0 8
unfolding count_ones
byte_counts b below =
    let same : (count_ones b == ones_from b 0 8) ≡ true =
    agree_below_at (λ n. count_ones n == ones_from n 0 8) (λ n. true) 256 b refl below in
    grind (arith, nat_tests)

-- the bits of a byte one after the other
byte_run :
    (bytes : List ℕ) (p j k m : ℕ) → p % 8 ≡ 0 → j + k ≡ 8
    → ones (bits_at bytes (p + j) (k + m)) ≡ ones_from (slice_index bytes (p / 8)) j k + ones (bits_at bytes (p + 8) m)
unfolding bits_at ones
byte_run bytes p j zero m place all =
    let e : j ≡ 8 = omega (arith, all) in
    let z : 0 + m ≡ m = omega arith in
    ap (λ n. ones (bits_at bytes (p + n) (0 + m))) e ∙ ap (λ n. ones (bits_at bytes (p + 8) n)) z ∙ omega arith
byte_run bytes p j (suc k) m place all =
    let next : p + j + 1 ≡ p + (j + 1) = omega arith in
    let more : suc k + m ≡ suc (k + m) = omega arith in
    let byte : (p + j) / 8 ≡ p / 8 = omega (arith, place, all) in
    let bit : (p + j) % 8 ≡ j = omega (arith, place, all) in
    let here : bit_at bytes (p + j) ≡ (slice_index bytes (p / 8) / 2 ^ j % 2 == 1) =
    ap (λ i. slice_index bytes i / 2 ^ ((p + j) % 8) % 2 == 1) byte
    ∙ ap (λ i. slice_index bytes (p / 8) / 2 ^ i % 2 == 1) bit in
    let rest = byte_run bytes p (j + 1) k m place (omega (arith, all)) in
    ap (λ n. ones (bits_at bytes (p + j) n)) more
    ∙ ap (λ (b : Bool). (if b then 1 else 0) + ones (bits_at bytes (p + j + 1) (k + m))) here
    ∙ ap (λ n. (if slice_index bytes (p / 8) / 2 ^ j % 2 == 1 then 1 else 0) + ones (bits_at bytes n (k + m))) next
    ∙ ap (λ n. (if slice_index bytes (p / 8) / 2 ^ j % 2 == 1 then 1 else 0) + n) rest
    ∙ sym (omega arith)

at_most_all : (b j k : ℕ) → ones_from b j k ≤ k
at_most_all b j zero = omega arith
at_most_all b j (suc k) =
    let rest = at_most_all b (j + 1) k in
    let here = at_most_one (b / 2 ^ j % 2 == 1) in
    omega (arith, rest, here) where
      at_most_one : (t : Bool) → (if t then 1 else 0) ≤ 1
      at_most_one true = omega arith
      at_most_one false = omega arith

pub eight_at_most : (b : ℕ) → b < 256 → count_ones b ≤ 8
eight_at_most b below = omega (arith, byte_counts b below, at_most_all b 0 8)

-- in the form that a loop shows
pub count_byte :
    (bytes : List ℕ) (p n : ℕ) → p % 8 ≡ 0 → 8 ≤ n → slice_index bytes (p / 8) < 256
    → ones (bits_at bytes p n) ≡ count_ones (slice_index bytes (p / 8)) + ones (bits_at bytes (p + 8) (n - 8))
count_byte bytes p n place many below =
    let start : p ≡ p + 0 = omega arith in
    let split : n ≡ 8 + (n - 8) = omega (arith, many) in
    ap (λ k. ones (bits_at bytes p k)) split ∙ ap (λ k. ones (bits_at bytes k (8 + (n - 8)))) start
    ∙ byte_run bytes p 0 8 (n - 8) place (omega arith)
    ∙ ap (λ k. k + ones (bits_at bytes (p + 8) (n - 8))) (sym (byte_counts (slice_index bytes (p / 8)) below))

pub count_bit :
    (bytes : List ℕ) (p n : ℕ) → 0 < n
    → ones (bits_at bytes p n) ≡ (if bit_at bytes p then 1 else 0) + ones (bits_at bytes (p + 1) (n - 1))
unfolding bits_at ones
count_bit bytes p n some =
    let split : n ≡ suc (n - 1) = omega (arith, some) in ap (λ k. ones (bits_at bytes p k)) split

pub count_none : (bytes : List ℕ) (p : ℕ) → ones (bits_at bytes p 0) ≡ 0
unfolding bits_at ones
count_none bytes p = refl
