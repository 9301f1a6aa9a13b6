-- Bits of bytes that are cut from two bytes each, and of bytes that are computed from others.
use Rattle.std.proofs.Common.{
  ◌≡◌,
  ℕ,
  zero,
  suc,
  ◌+◌,
  ◌*◌,
  ◌-◌,
  ◌/◌,
  ◌%◌,
  ◌^◌,
  ◌<◌,
  ◌≤◌,
  ◌==◌,
  List,
  [],
  ◌∷◌,
  length,
  refl,
  ap,
  sym,
  ◌∙◌,
  arith,
  inl,
  inr,
  Fits,
  w8,
}
use Rattle.std.specs.Prelude.{not, ◌&&◌, ◌||◌, slice_index, bit_and, bit_or, min, max, replicate}
use Rattle.std.specs.Int.{bit_at as nth_bit, bit_not}
use Rattle.std.proofs.Math.Nat.{mul-mod_left}
use Rattle.std.proofs.Math.Pow.{mod-mod-pow}
use Rattle.std.specs.Simd.Lanes.{zip2}
use Rattle.std.proofs.lemmas.Simd.{length-zip2, get_or-zip2, get_or-replicate}
use Rattle.std.proofs.lemmas.Bool.{cases_lt}
use Rattle.std.proofs.lemmas.Nat.{pow_pos, shl-shr, shr-shr, mod-pow-add, field_of}
use Rattle.std.proofs.lemmas.Nat.Bits.{
  bit_at_and,
  bit_at_or,
  bit_at_not,
  bit_at-lt,
  bit_at-zero,
  bit_at_above,
  bit_at_cat_low,
  bit_at_cat_high,
}
use Rattle.bitmaps.specs.Bits.{bit_at}
use Rattle.bitmaps.specs.Blocks.{AreBits, joined_byte}

-- A byte that is cut from two.

-- the high part: the first r bits of the next byte, k places up
high-part : (r k high : ℕ) → r + k ≡ 8 → high * 2 ^ k % 2 ^ 8 ≡ (high % 2 ^ r) * 2 ^ k + 0
high-part r k high all =
    ap (λ n. high * 2 ^ k % 2 ^ n) (sym all) ∙ mod-pow-add (high * 2 ^ k) r k
    ∙ ap (λ n. (n % 2 ^ r) * 2 ^ k + high * 2 ^ k % 2 ^ k) (shl-shr high k)
    ∙ ap (λ n. (high % 2 ^ r) * 2 ^ k + n) (mul-mod_left high (2 ^ k))

-- a bit below r is that of the remainder by 2 ^ r
bit-mod : (n r i : ℕ) → i < r → nth_bit (n % 2 ^ r) i ≡ nth_bit n i
bit-mod n r i below =
    let high = r - i - 1 in
    let all : high + 1 + i ≡ r = omega (arith, below) in
    ap (λ m. n % 2 ^ m / 2 ^ i % 2) (sym all) ∙ ap (λ m. m % 2) (field_of n (high + 1) i)
    ∙ mod-mod-pow (n / 2 ^ i) high 1

low-bit : (low r j : ℕ) → nth_bit (low / 2 ^ r) j ≡ nth_bit low (r + j)
low-bit low r j = ap (λ n. n % 2) (shr-shr low r j)

pub joined-low : (r low high j : ℕ) → r < 8 → r + j < 8 → nth_bit (joined_byte r low high) j ≡ nth_bit low (r + j)
unfolding joined_byte
joined-low r low high j inside below =
    let k = 8 - r in
    let all : r + k ≡ 8 = omega (arith, inside) in
    let none : nth_bit (high * 2 ^ k % 2 ^ 8) j ≡ 0 =
    ap (λ n. nth_bit n j) (high-part r k high all) ∙ bit_at_cat_low (high % 2 ^ r) k 0 j (omega (arith, below))
    ∙ bit_at-zero j in
    bit_at_or (low / 2 ^ r) (high * 2 ^ k % 2 ^ 8) j ∙ ap (λ n. max (nth_bit (low / 2 ^ r) j) n) none ∙ omega arith
    ∙ low-bit low r j

pub joined-high : (r low high j : ℕ) → r < 8 → j < 8 → 8 ≤ r + j → low < 2 ^ 8
    → nth_bit (joined_byte r low high) j ≡ nth_bit high (r + j - 8)
unfolding joined_byte
joined-high r low high j inside within past small =
    let k = 8 - r in
    let all : r + k ≡ 8 = omega (arith, inside) in
    let none : nth_bit (low / 2 ^ r) j ≡ 0 = low-bit low r j ∙ bit_at_above low 8 (r + j) small past in
    let place : j - k ≡ r + j - 8 = omega (arith, past, inside) in
    let here : nth_bit (high * 2 ^ k % 2 ^ 8) j ≡ nth_bit high (r + j - 8) =
    ap (λ n. nth_bit n j) (high-part r k high all)
    ∙ bit_at_cat_high (high % 2 ^ r) k 0 j (pow_pos k) (omega (arith, past, inside))
    ∙ bit-mod high r (j - k) (omega (arith, within, past, inside)) ∙ ap (nth_bit high) place in
    bit_at_or (low / 2 ^ r) (high * 2 ^ k % 2 ^ 8) j ∙ ap (λ n. max n (nth_bit (high * 2 ^ k % 2 ^ 8) j)) none
    ∙ omega arith ∙ here

-- Bits that are read from another offset.

-- bit k of the bytes from `from` on, in a byte that is cut from two
cut-bit : (bytes : List ℕ) (from k lane : ℕ) → ((i : ℕ) → Fits w8 (slice_index bytes i))
    → lane ≡ joined_byte (from % 8) (slice_index bytes (from / 8 + k / 8)) (slice_index bytes (from / 8 + 1 + k / 8))
    → (nth_bit lane (k % 8) == 1) ≡ bit_at bytes (from + k)
cut-bit bytes from k lane fits is = elim (cases_lt (from % 8 + k % 8) 8) [
  | inl low ↦
      let byte : from / 8 + k / 8 ≡ (from + k) / 8 = omega (arith, low) in
      let bit : from % 8 + k % 8 ≡ (from + k) % 8 = omega (arith, low) in
      ap (λ n. nth_bit n (k % 8) == 1) is
      ∙ ap (λ n. n == 1)
      (joined-low (from % 8) (slice_index bytes (from / 8 + k / 8)) (slice_index bytes (from / 8 + 1 + k / 8)) (k % 8)
      (omega arith) low)
      ∙ ap (λ i. nth_bit (slice_index bytes i) (from % 8 + k % 8) == 1) byte
      ∙ ap (λ i. nth_bit (slice_index bytes ((from + k) / 8)) i == 1) bit
  | inr high ↦
      let byte : from / 8 + 1 + k / 8 ≡ (from + k) / 8 = omega (arith, high) in
      let bit : from % 8 + k % 8 - 8 ≡ (from + k) % 8 = omega (arith, high) in
      ap (λ n. nth_bit n (k % 8) == 1) is
      ∙ ap (λ n. n == 1)
      (joined-high (from % 8) (slice_index bytes (from / 8 + k / 8)) (slice_index bytes (from / 8 + 1 + k / 8)) (k % 8)
      (omega arith) (omega arith) high (fits (from / 8 + k / 8)).fits)
      ∙ ap (λ i. nth_bit (slice_index bytes i) (from % 8 + k % 8 - 8) == 1) byte
      ∙ ap (λ i. nth_bit (slice_index bytes ((from + k) / 8)) i == 1) bit
]

pub cut-bits : (n : ℕ) (bytes lanes : List ℕ) (from : ℕ) → ((i : ℕ) → Fits w8 (slice_index bytes i))
    → 8 * length lanes ≡ n
    → ((i : ℕ) → i < length lanes → slice_index lanes i
    ≡ joined_byte (from % 8) (slice_index bytes (from / 8 + i)) (slice_index bytes (from / 8 + 1 + i)))
    → AreBits n lanes (λ k. bit_at bytes (from + k))
cut-bits n bytes lanes from fits long each = record {
  long = long;
  each = λ k below. cut-bit bytes from k (slice_index lanes (k / 8)) fits (each (k / 8) (omega (arith, long, below)));
}

-- where the offset is the first of a byte
whole-bit : (bytes : List ℕ) (from k lane : ℕ) → from % 8 ≡ 0 → lane ≡ slice_index bytes (from / 8 + k / 8)
    → (nth_bit lane (k % 8) == 1) ≡ bit_at bytes (from + k)
whole-bit bytes from k lane first is =
    let byte : from / 8 + k / 8 ≡ (from + k) / 8 = omega (arith, first) in
    let bit : k % 8 ≡ (from + k) % 8 = omega (arith, first) in
    ap (λ n. nth_bit n (k % 8) == 1) is ∙ ap (λ i. nth_bit (slice_index bytes i) (k % 8) == 1) byte
    ∙ ap (λ i. nth_bit (slice_index bytes ((from + k) / 8)) i == 1) bit

pub whole-bits : (n : ℕ) (bytes lanes : List ℕ) (from : ℕ) → from % 8 ≡ 0 → 8 * length lanes ≡ n
    → ((i : ℕ) → i < length lanes → slice_index lanes i ≡ slice_index bytes (from / 8 + i))
    → AreBits n lanes (λ k. bit_at bytes (from + k))
whole-bits n bytes lanes from first long each = record {
  long = long;
  each = λ k below. whole-bit bytes from k (slice_index lanes (k / 8)) first (each (k / 8) (omega (arith, long, below)));
}

-- the same of vectors

pub whole-block : (bytes lanes block : List ℕ) (from : ℕ) → from % 8 ≡ 0 → length lanes ≡ 32
    → ((i : ℕ) → i < 32 → slice_index lanes i ≡ slice_index bytes (from / 8 + i))
    → block ≡ lanes → AreBits 256 block (λ k. bit_at bytes (from + k))
whole-block bytes lanes block from first long each is =
    let all : length block ≡ 32 = ap length is ∙ long in
    whole-bits 256 bytes block from first (omega (arith, all))
    (λ i below. ap (λ xs. slice_index xs i) is ∙ each i (omega (arith, below, all)))

pub cut-block : (bytes low high lanes block : List ℕ) (from : ℕ) → ((i : ℕ) → Fits w8 (slice_index bytes i))
    → ((i : ℕ) → i < 32 → slice_index low i ≡ slice_index bytes (from / 8 + i))
    → ((i : ℕ) → i < 32 → slice_index high i ≡ slice_index bytes (from / 8 + 1 + i))
    → length lanes ≡ 32
    → ((i : ℕ) → i < 32 → slice_index lanes i ≡ joined_byte (from % 8) (slice_index low i) (slice_index high i))
    → block ≡ lanes → AreBits 256 block (λ k. bit_at bytes (from + k))
cut-block bytes low high lanes block from fits lows highs long each is =
    let all : length block ≡ 32 = ap length is ∙ long in
    cut-bits 256 bytes block from fits (omega (arith, all))
    (λ i below.
    let here : i < 32 = omega (arith, below, all) in
    ap (λ xs. slice_index xs i) is ∙ each i here
    ∙ ap (λ n. joined_byte (from % 8) n (slice_index high i)) (lows i here)
    ∙ ap (joined_byte (from % 8) (slice_index bytes (from / 8 + i))) (highs i here))

-- Bytes that are computed bit by bit from others.

min-and : (a b : ℕ) → a < 2 → b < 2 → (min a b == 1) ≡ (a == 1 && b == 1)
min-and zero zero h i = refl
min-and zero (suc zero) h i = refl
min-and (suc zero) zero h i = refl
min-and (suc zero) (suc zero) h i = refl
min-and (suc (suc a)) b h i = absurd (omega (arith, h))
min-and a (suc (suc b)) h i = absurd (omega (arith, i))

max-or : (a b : ℕ) → a < 2 → b < 2 → (max a b == 1) ≡ (a == 1 || b == 1)
max-or zero zero h i = refl
max-or zero (suc zero) h i = refl
max-or (suc zero) zero h i = refl
max-or (suc zero) (suc zero) h i = refl
max-or (suc (suc a)) b h i = absurd (omega (arith, h))
max-or a (suc (suc b)) h i = absurd (omega (arith, i))

one-less : (a : ℕ) → a < 2 → (1 - a == 1) ≡ not (a == 1)
one-less zero h = refl
one-less (suc zero) h = refl
one-less (suc (suc a)) h = absurd (omega (arith, h))

pub and-bits : (n : ℕ) (xs ys zs : List ℕ) → 8 * length zs ≡ n
    → ((i : ℕ) → i < length zs → slice_index zs i ≡ bit_and (slice_index xs i) (slice_index ys i))
    → AreBits n zs (λ k. bit_at xs k && bit_at ys k)
and-bits n xs ys zs long each = record {
  long = long;
  each = λ k below.
      let x = slice_index xs (k / 8) in
      let y = slice_index ys (k / 8) in
      ap (λ m. nth_bit m (k % 8) == 1) (each (k / 8) (omega (arith, long, below)))
      ∙ ap (λ m. m == 1) (bit_at_and x y (k % 8))
      ∙ min-and (nth_bit x (k % 8)) (nth_bit y (k % 8)) (bit_at-lt x (k % 8)) (bit_at-lt y (k % 8));
}

pub or-bits : (n : ℕ) (xs ys zs : List ℕ) → 8 * length zs ≡ n
    → ((i : ℕ) → i < length zs → slice_index zs i ≡ bit_or (slice_index xs i) (slice_index ys i))
    → AreBits n zs (λ k. bit_at xs k || bit_at ys k)
or-bits n xs ys zs long each = record {
  long = long;
  each = λ k below.
      let x = slice_index xs (k / 8) in
      let y = slice_index ys (k / 8) in
      ap (λ m. nth_bit m (k % 8) == 1) (each (k / 8) (omega (arith, long, below)))
      ∙ ap (λ m. m == 1) (bit_at_or x y (k % 8))
      ∙ max-or (nth_bit x (k % 8)) (nth_bit y (k % 8)) (bit_at-lt x (k % 8)) (bit_at-lt y (k % 8));
}

pub not-bits : (n : ℕ) (xs zs : List ℕ) → ((i : ℕ) → i < length zs → slice_index xs i < 2 ^ 8) → 8 * length zs ≡ n
    → ((i : ℕ) → i < length zs → slice_index zs i ≡ bit_not w8 (slice_index xs i))
    → AreBits n zs (λ k. not (bit_at xs k))
not-bits n xs zs small long each = record {
  long = long;
  each = λ k below.
      let here : k / 8 < length zs = omega (arith, long, below) in
      let x = slice_index xs (k / 8) in
      ap (λ m. nth_bit m (k % 8) == 1) (each (k / 8) here)
      ∙ ap (λ m. m == 1) (bit_at_not w8 x (k % 8) (small (k / 8) here) (omega arith))
      ∙ one-less (nth_bit x (k % 8)) (bit_at-lt x (k % 8));
}

-- the same of a single byte

only : (P : ℕ → Type 0) → P 0 → (i : ℕ) → i < 1 → P i
only P p zero h = p
only P p (suc i) h = absurd (omega (arith, h))

pub and-byte : (x y : ℕ) → AreBits 8 (bit_and x y ∷ []) (λ k. bit_at (x ∷ []) k && bit_at (y ∷ []) k)
and-byte x y =
    and-bits 8 (x ∷ []) (y ∷ []) (bit_and x y ∷ []) refl
    (only (λ i. slice_index (bit_and x y ∷ []) i ≡ bit_and (slice_index (x ∷ []) i) (slice_index (y ∷ []) i)) refl)

pub or-byte : (x y : ℕ) → AreBits 8 (bit_or x y ∷ []) (λ k. bit_at (x ∷ []) k || bit_at (y ∷ []) k)
or-byte x y =
    or-bits 8 (x ∷ []) (y ∷ []) (bit_or x y ∷ []) refl
    (only (λ i. slice_index (bit_or x y ∷ []) i ≡ bit_or (slice_index (x ∷ []) i) (slice_index (y ∷ []) i)) refl)

pub not-byte : (x : ℕ) → x < 2 ^ 8 → AreBits 8 ((255 - x) ∷ []) (λ k. not (bit_at (x ∷ []) k))
not-byte x small =
    not-bits 8 (x ∷ []) ((255 - x) ∷ []) (only (λ i. slice_index (x ∷ []) i < 2 ^ 8) small) refl
    (only (λ i. slice_index ((255 - x) ∷ []) i ≡ bit_not w8 (slice_index (x ∷ []) i)) refl)

pub cut-byte : (bytes : List ℕ) (from byte : ℕ) → ((i : ℕ) → Fits w8 (slice_index bytes i))
    → byte ≡ joined_byte (from % 8) (slice_index bytes (from / 8)) (slice_index bytes (from / 8 + 1))
    → AreBits 8 (byte ∷ []) (λ k. bit_at bytes (from + k))
cut-byte bytes from byte fits is =
    cut-bits 8 bytes (byte ∷ []) from fits refl
    (only (λ i. slice_index (byte ∷ []) i
    ≡ joined_byte (from % 8) (slice_index bytes (from / 8 + i)) (slice_index bytes (from / 8 + 1 + i)))
    (is ∙ ap (λ i. joined_byte (from % 8) (slice_index bytes i) (slice_index bytes (from / 8 + 1))) (omega arith)
    ∙ ap (λ i. joined_byte (from % 8) (slice_index bytes (from / 8 + 0)) (slice_index bytes i)) (omega arith)))

pub whole-byte : (bytes : List ℕ) (from byte : ℕ) → from % 8 ≡ 0 → byte ≡ slice_index bytes (from / 8)
    → AreBits 8 (byte ∷ []) (λ k. bit_at bytes (from + k))
whole-byte bytes from byte first is =
    whole-bits 8 bytes (byte ∷ []) from first refl
    (only (λ i. slice_index (byte ∷ []) i ≡ slice_index bytes (from / 8 + i)) (is ∙ ap (slice_index bytes) (omega arith)))

pub ruleset byte_laws = (whole-byte)

-- The lanes that are cut from two vectors.

abbrev low_parts : ℕ → List ℕ → List ℕ
low_parts r low = zip2 (λ a b. a / 2 ^ b) low (replicate 32 r)

abbrev high_parts : ℕ → List ℕ → List ℕ
high_parts r high = zip2 (λ a b. a * 2 ^ b % 2 ^ 8) high (replicate 32 (8 - r))

abbrev joined_lanes : ℕ → List ℕ → List ℕ → List ℕ
joined_lanes r low high = zip2 bit_or (low_parts r low) (high_parts r high)

length-low_parts : (r : ℕ) (low : List ℕ) → length low ≡ 32 → length (low_parts r low) ≡ 32
length-low_parts r low long = length-zip2 (λ a b. a / 2 ^ b) low (replicate 32 r) long ∙ long

length-high_parts : (r : ℕ) (high : List ℕ) → length high ≡ 32 → length (high_parts r high) ≡ 32
length-high_parts r high long = length-zip2 (λ a b. a * 2 ^ b % 2 ^ 8) high (replicate 32 (8 - r)) long ∙ long

pub length-joined_lanes : (r : ℕ) (low high : List ℕ) → length low ≡ 32 → length high ≡ 32
    → length (joined_lanes r low high) ≡ 32
length-joined_lanes r low high l h =
    let ll = length-low_parts r low l in
    length-zip2 bit_or (low_parts r low) (high_parts r high) (ll ∙ sym (length-high_parts r high h)) ∙ ll

pub lane-joined_lanes : (r : ℕ) (low high : List ℕ) → length low ≡ 32 → length high ≡ 32 → (k : ℕ) → k < 32
    → slice_index (joined_lanes r low high) k ≡ joined_byte r (slice_index low k) (slice_index high k)
unfolding joined_byte
lane-joined_lanes r low high l h k below =
    let ll = length-low_parts r low l in
    let hl = length-high_parts r high h in
    let low-lane : slice_index (low_parts r low) k ≡ slice_index low k / 2 ^ r =
    get_or-zip2 (λ a b. a / 2 ^ b) low (replicate 32 r) k 0 0 0 (omega (arith, l, below)) below
    ∙ ap (λ b. slice_index low k / 2 ^ b) (get_or-replicate 32 k r 0 below) in
    let high-lane : slice_index (high_parts r high) k ≡ slice_index high k * 2 ^ (8 - r) % 2 ^ 8 =
    get_or-zip2 (λ a b. a * 2 ^ b % 2 ^ 8) high (replicate 32 (8 - r)) k 0 0 0 (omega (arith, h, below)) below
    ∙ ap (λ b. slice_index high k * 2 ^ b % 2 ^ 8) (get_or-replicate 32 k (8 - r) 0 below) in
    get_or-zip2 bit_or (low_parts r low) (high_parts r high) k 0 0 0 (omega (arith, ll, below)) (omega (arith, hl, below))
    ∙ ap (λ n. bit_or n (slice_index (high_parts r high) k)) low-lane
    ∙ ap (bit_or (slice_index low k / 2 ^ r)) high-lane
