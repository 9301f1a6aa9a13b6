-- Numbers in lanes: those in bytes, one after the other.
use Rattle.std.proofs.Common.{
  ◌≡◌,
  ℕ,
  zero,
  suc,
  ◌+◌,
  ◌*◌,
  ◌-◌,
  ◌/◌,
  ◌%◌,
  ◌^◌,
  ◌<◌,
  ◌≤◌,
  ◌==◌,
  List,
  [],
  ◌∷◌,
  length,
  take,
  drop,
  get_or,
  refl,
  ap,
  sym,
  ◌∙◌,
  arith,
  cond,
  leb,
  Fits,
  w8,
}
use Rattle.std.specs.Prelude.{Bool, true, false, map, replicate, slice_index}
use mir.Syntax.{Width}
use mir.Val.{bits, hbits}
use Rattle.std.specs.Simd.Lanes.{chunk, digits_l, mask_l, number_l, top, zip2}
use Rattle.std.proofs.lemmas.List.{drop_more, get_or-drop, get_or-map, length-map}
use Rattle.std.proofs.Math.Nat.{mul-le-mul_left}
use Rattle.std.proofs.lemmas.Simd.{
  below_from_Fits,
  bitmask_splat,
  bit_mask_l,
  chunk-fits,
  get_or-chunk,
  get_or-replicate,
  get_or-zip2,
  get_or_wider,
  length-chunk,
  length-zip2,
  mask_l-lt,
}
use Rattle.byteorder.specs.Endian.{little_from}
use Rattle.bitmaps.specs.Blocks.{AreBits}
use Rattle.array_layout.specs.Buffers.{unsigned_at}
use Rattle.column_truths.specs.Spans.{in_span}

-- a number of n bytes in a chunk

number_from : (i n : ℕ) (xs : List ℕ) → i + n ≤ length xs → number_l 256 (take n (drop i xs)) ≡ little_from i n xs
number_from i zero xs room = refl
number_from i (suc n) xs room =
    let rest = number_from (i + 1) n xs (omega (arith, room)) in
    let next : i + 1 ≡ suc i = omega arith in
    ap (λ ys. number_l 256 (take (suc n) ys)) (drop_more xs i 0 (omega (arith, room)))
    ∙ ap (λ m. get_or xs i 0 + 256 * m) (rest ∙ ap (λ j. little_from j n xs) next)

from-chunk : (a m i n : ℕ) (xs : List ℕ) → i + n ≤ m → little_from i n (chunk a m xs) ≡ little_from (a + i) n xs
from-chunk a m i zero xs room = refl
from-chunk a m i (suc n) xs room =
    ap (λ b. b + 256 * little_from (suc i) n (chunk a m xs)) (get_or-chunk a m xs i 0 (omega (arith, room)))
    ∙ ap (λ k. get_or xs (a + i) 0 + 256 * k)
    (from-chunk a m (suc i) n xs (omega (arith, room)) ∙ ap (λ j. little_from j n xs) (omega arith))

from-drop : (j i n : ℕ) (xs : List ℕ) → little_from i n (drop j xs) ≡ little_from (j + i) n xs
from-drop j i zero xs = refl
from-drop j i (suc n) xs =
    ap (λ b. b + 256 * little_from (suc i) n (drop j xs)) (get_or-drop j xs i 0)
    ∙ ap (λ k. get_or xs (j + i) 0 + 256 * k)
    (from-drop j (suc i) n xs ∙ ap (λ p. little_from p n xs) (omega arith))

-- number k of eight that begin with number `at`
pub lane_number : (w at k m : ℕ) (xs : List ℕ) → w * k + w ≤ m → m ≤ length (chunk (w * at) m xs)
    → number_l 256 (chunk (w * k) w (chunk (w * at) m xs)) ≡ unsigned_at w xs (at + k)
unfolding unsigned_at
lane_number w at k m xs room all =
    number_from (w * k) w (chunk (w * at) m xs) (omega (arith, room, all))
    ∙ from-chunk (w * at) m (w * k) w xs room
    ∙ ap (λ j. little_from j w xs) (omega arith)
    ∙ sym (from-drop (w * (at + k)) 0 w xs)

-- the mask of a comparison with a splat, as the bits of a byte
pub mask_bits : (w : Width) (t : ℕ → ℕ → Bool) (xs : List ℕ) (y byte : ℕ) (g : ℕ → Bool) → length xs ≡ 8
    → byte ≡ mask_l (map (top (hbits w)) (zip2 (λ a b. cond (t a b) (2 ^ bits w - 1) 0) xs (replicate 8 y))) % 2 ^ 64
    → ((k : ℕ) → k < 8 → t (get_or xs k 0) y ≡ g k) → AreBits 8 (byte ∷ []) g
mask_bits w t xs y byte g long is each = record {
  long = refl;
  each = λ k below.
      let bs = map (λ x. t x y) xs in
      let byte-is : byte ≡ mask_l bs = is ∙ bitmask_splat w t xs 8 y long (omega arith) in
      let first : k / 8 ≡ 0 = omega (arith, below) in
      let same : k % 8 ≡ k = omega (arith, below) in
      ap (λ i. slice_index (byte ∷ []) i / 2 ^ (k % 8) % 2 == 1) first
      ∙ ap (λ i. byte / 2 ^ i % 2 == 1) same
      ∙ ap (λ n. n / 2 ^ k % 2 == 1) byte-is ∙ ap (λ n. n == 1) (bit_mask_l bs k)
      ∙ by_bit (get_or bs k false) ∙ get_or-map (λ x. t x y) xs k 0 false (omega (arith, below, long)) ∙ each k below;
} where
  by_bit : (b : Bool) → (cond b 1 0 == 1) ≡ b
  by_bit true = refl
  by_bit false = refl

abbrev pub differences : Width → ℕ → List ℕ → List ℕ
differences w low lanes = zip2 (λ a b. (a + (2 ^ bits w - b)) % 2 ^ bits w) lanes (replicate 8 low)

abbrev pub span_mask : Width → ℕ → List ℕ → ℕ
span_mask w span xs =
    mask_l (map (top (hbits w)) (zip2 (λ a b. cond (leb a b) (2 ^ bits w - 1) 0) xs (replicate 8 span))) % 2 ^ 64

length-differences : (w : Width) (low : ℕ) (lanes : List ℕ) → length lanes ≡ 8 → length (differences w low lanes) ≡ 8
length-differences w low lanes long =
    length-zip2 (λ a b. (a + (2 ^ bits w - b)) % 2 ^ bits w) lanes (replicate 8 low) long ∙ long

-- which of eight lanes lie in a span
pub lanes_within : (w : Width) (n low span at byte : ℕ) (bytes lanes : List ℕ) → length lanes ≡ 8
    → ((k : ℕ) → k < 8 → get_or lanes k 0 ≡ unsigned_at n bytes (at + k))
    → byte ≡ span_mask w span (differences w low lanes)
    → AreBits 8 (byte ∷ []) (λ k. in_span (bits w) low span (unsigned_at n bytes (at + k)))
lanes_within w n low span at byte bytes lanes long each is =
    let sub : ℕ → ℕ → ℕ = λ a b. (a + (2 ^ bits w - b)) % 2 ^ bits w in
    mask_bits w leb (differences w low lanes) span byte
    (λ k. in_span (bits w) low span (unsigned_at n bytes (at + k))) (length-differences w low lanes long) is
    (λ k below.
    ap (λ m. leb m span)
    (get_or-zip2 sub lanes (replicate 8 low) k 0 0 0 (omega (arith, below, long)) below
    ∙ ap (sub (get_or lanes k 0)) (get_or-replicate 8 k low 0 below)
    ∙ ap (λ m. sub m low) (each k below)))

pub mask_small : (w : Width) (low span : ℕ) (lanes : List ℕ) → length lanes ≡ 8
    → span_mask w span (differences w low lanes) < 256
mask_small w low span lanes long =
    let xs = differences w low lanes in
    let all = length-differences w low lanes long in
    let bs = map (λ x. leb x span) xs in
    let same = bitmask_splat w leb xs 8 span all (omega arith) in
    let small : mask_l bs < 2 ^ length bs = mask_l-lt bs in
    let many : length bs ≡ 8 = length-map xs (λ x. leb x span) ∙ all in
    let most : 2 ^ length bs ≡ 256 = ap (λ k. 2 ^ k) many in
    omega (arith, same, small, most)

length-digits_l : (p n x : ℕ) → length (digits_l p n x) ≡ n
length-digits_l p zero x = refl
length-digits_l p (suc n) x = ap suc (length-digits_l p n (x / p))

-- eight lanes of n bytes each

abbrev pub wide_lanes : ℕ → ℕ → ℕ → List ℕ → List ℕ
wide_lanes q n at bytes = digits_l q 8 (number_l 256 (chunk (n * at) (n * 8) bytes))

pub length-wide_lanes : (q n at : ℕ) (bytes : List ℕ) → length (wide_lanes q n at bytes) ≡ 8
length-wide_lanes q n at bytes = length-digits_l q 8 (number_l 256 (chunk (n * at) (n * 8) bytes))

pub lane-wide_lanes : (q n at : ℕ) (bytes : List ℕ) → q ≡ 256 ^ n → n * (at + 8) ≤ length bytes
    → ((i : ℕ) → Fits w8 (get_or bytes i 0))
    → (k : ℕ) → k < 8 → get_or (wide_lanes q n at bytes) k 0 ≡ unsigned_at n bytes (at + k)
lane-wide_lanes q n at bytes is room fits k below =
    let v = chunk (n * at) (n * 8) bytes in
    let many : length v ≡ n * 8 = length-chunk (n * at) (n * 8) bytes (omega (arith, room)) in
    let one : n * (k + 1) ≤ n * 8 = mul-le-mul_left n (omega (arith, below)) in
    get_or_wider 256 n q 8 v k is (below_from_Fits w8 v (chunk-fits w8 (n * at) (n * 8) bytes fits)) below
    ∙ lane_number n at k (n * 8) bytes (omega (arith, one)) (omega (arith, many))

pub lane-bytes : (at : ℕ) (bytes : List ℕ) → (k : ℕ) → k < 8
    → get_or (chunk at 8 bytes) k 0 ≡ unsigned_at 1 bytes (at + k)
unfolding unsigned_at
lane-bytes at bytes k below =
    get_or-chunk at 8 bytes k 0 below ∙ sym (get_or-drop (1 * (at + k)) bytes 0 0 ∙ ap (λ j. get_or bytes j 0) (omega arith))
    ∙ omega arith
