-- Bits that are packed are read back, and one more bit is packed.
use Rattle.std.proofs.Common.{
  ◌≡◌,
  ℕ,
  zero,
  suc,
  ◌+◌,
  ◌*◌,
  ◌-◌,
  ◌/◌,
  ◌%◌,
  ◌^◌,
  ◌<◌,
  ◌≤◌,
  ◌==◌,
  List,
  [],
  ◌∷◌,
  ◌++◌,
  length,
  take,
  drop,
  get_or,
  refl,
  ap,
  sym,
  ◌∙◌,
  arith,
  length-drop,
  inl,
  inr,
}
use Rattle.std.specs.Prelude.{Bool, true, false, if◌then◌else◌, slice_index}
use Rattle.std.proofs.Math.Nat.{pow-succ', div-div-eq-div-mul}
use Rattle.std.proofs.lemmas.Bool.{cases_lt}
use Rattle.std.proofs.lemmas.List.{drop_more, drop_all, length-append, length-take, get_or-take, get_or-drop}
use Rattle.bitmaps.specs.Bits.{HasBits, bit_at, bits_at}
use Rattle.bitmaps.specs.Packed.{IsPacked, byte_of, packed, bytes_of}
use Rattle.bitmaps.proofs.Runs.{length-bits_at}

abbrev bit : Bool → ℕ
bit b = if b then 1 else 0

half : (b : Bool) (n : ℕ) → (bit b + 2 * n) / 2 ≡ n
half true n = omega arith
half false n = omega arith

low-bit : (b : Bool) (n : ℕ) → (bit b + 2 * n) / 1 % 2 ≡ bit b
low-bit true n = omega arith
low-bit false n = omega arith

bit-is : (b : Bool) → (bit b == 1) ≡ b
bit-is true = refl
bit-is false = refl

byte-bit : (bs : List Bool) (i : ℕ) → i < length bs → byte_of bs / 2 ^ i % 2 ≡ bit (get_or bs i false)
byte-bit [] i h = absurd (omega (arith, h))
byte-bit (b ∷ bs) zero h = low-bit b (byte_of bs)
byte-bit (b ∷ bs) (suc i) h =
    let all : ℕ = byte_of (b ∷ bs) in
    let e : all / 2 ^ suc i ≡ byte_of bs / 2 ^ i =
    ap (λ p. all / p) (pow-succ' 2 i) ∙ sym (div-div-eq-div-mul all 2 (2 ^ i))
    ∙ ap (λ n. n / 2 ^ i) (half b (byte_of bs)) in
    ap (λ n. n % 2) e ∙ byte-bit bs i (omega (arith, h))

pub length-packed : (n : ℕ) (bs : List Bool) → length (packed n bs) ≡ n
length-packed zero bs = refl
length-packed (suc n) bs = ap suc (length-packed n (drop 8 bs))

packed-bit : (k : ℕ) (bs : List Bool) (i : ℕ) → i < length bs → length bs ≤ 8 * k
    → slice_index (packed k bs) (i / 8) / 2 ^ (i % 8) % 2 ≡ bit (get_or bs i false)
packed-bit zero bs i h room = absurd (omega (arith, h, room))
packed-bit (suc k) bs i h room = elim (cases_lt i 8) [
  | inl low ↦
      let q : i / 8 ≡ 0 = omega (arith, low) in
      let r : i % 8 ≡ i = omega (arith, low) in
      let few = length-take 8 bs in
      let mine = byte-bit (take 8 bs) i (omega (arith, few, low, h)) in
      rw (q, r) (mine ∙ ap bit (get_or-take 8 bs i false low))
  | inr high ↦
      let j : ℕ = i - 8 in
      let q : i / 8 ≡ suc (j / 8) = omega (arith, high) in
      let r : i % 8 ≡ j % 8 = omega (arith, high) in
      let left = length-drop 8 bs in
      let others = packed-bit k (drop 8 bs) j (omega (arith, left, h, high)) (omega (arith, left, room)) in
      let back : 8 + j ≡ i = omega (arith, high) in
      rw (q, r) (others ∙ ap bit (get_or-drop 8 bs j false ∙ ap (λ n. get_or bs n false) back))
]

bit-back : (bs : List Bool) (i : ℕ) → i < length bs → bit_at (bytes_of bs) i ≡ get_or bs i false
unfolding bytes_of
bit-back bs i h = rw (packed-bit ((length bs + 7) / 8) bs i h (omega arith)) (bit-is (get_or bs i false))

run-back : (bs : List Bool) (i n : ℕ) → i + n ≡ length bs → bits_at (bytes_of bs) i n ≡ drop i bs
unfolding bits_at
run-back bs i zero h = sym (drop_all i bs (omega (arith, h)))
run-back bs i (suc n) h =
    rw (bit-back bs i (omega (arith, h)), run-back bs (i + 1) n (omega (arith, h)))
    (sym (drop_more bs i false (omega (arith, h))))

-- the bits of the bytes of some bits
pub bits-back : (bs : List Bool) → bits_at (bytes_of bs) 0 (length bs) ≡ bs
bits-back bs = run-back bs 0 (length bs) (omega arith)

pub length-bytes_of : (bs : List Bool) → length (bytes_of bs) ≡ (length bs + 7) / 8
unfolding bytes_of
length-bytes_of bs = length-packed ((length bs + 7) / 8) bs

-- after one more bit
pub bits-pushed : (bytes : List ℕ) (bs : List Bool) (b : Bool) (n : ℕ) → bytes ≡ bytes_of (bs ++ b ∷ []) → length bs ≡ n
    → bits_at bytes 0 (n + 1) ≡ bs ++ b ∷ []
bits-pushed bytes bs b n e h =
    let all = length-append bs (b ∷ []) in
    let count : n + 1 ≡ length (bs ++ b ∷ []) = omega (arith, all, h) in
    rw (e, count) (bits-back (bs ++ b ∷ []))

pub packed-pushed : (bytes : List ℕ) (bs : List Bool) (b : Bool) (n : ℕ) → bytes ≡ bytes_of (bs ++ b ∷ [])
    → length bs ≡ n → IsPacked bytes (n + 1)
packed-pushed bytes bs b n e h = e ∙ ap bytes_of (sym (bits-pushed bytes bs b n e h))

pub has-bits : (bytes : List ℕ) (n : ℕ) → IsPacked bytes n → HasBits bytes n
has-bits bytes n e =
    let len = ap length e ∙ length-bytes_of (bits_at bytes 0 n) in
    let all = length-bits_at bytes 0 n in
    omega (arith, len, all)

pub no-bits : (bytes : List ℕ) → bits_at bytes 0 0 ≡ []
unfolding bits_at
no-bits bytes = refl

pub none-packed : (bytes : List ℕ) → bytes ≡ [] → IsPacked bytes 0
unfolding bits_at bytes_of
none-packed bytes e = rw e refl

pub ruleset packing = (length-bits_at, bits-pushed, packed-pushed, has-bits, no-bits, none-packed)
