-- Bits that are compared without a sign are compared as signed numbers, none of them negative.
use Rattle.std.proofs.Common.{
  ◌≡◌,
  ◌⊎◌,
  inl,
  inr,
  ℕ,
  zero,
  suc,
  ◌+◌,
  ◌*◌,
  ◌-◌,
  ◌^◌,
  ◌<◌,
  ◌≤◌,
  Bool,
  true,
  false,
  List,
  Ok,
  Err,
  length,
  drop,
  refl,
  ap,
  sym,
  subst,
  ◌∙◌,
  arith,
}
use Rattle.std.specs.Prelude.{ℤ, pos, negsuc, ◌≤ℤ◌, ◌+ℤ◌, ◌-ℤ◌, ◌↔◌, ◌&&◌, if◌then◌else◌, nat_lt, nat_le, slice_index}
use Rattle.std.specs.Int.{w32, w64, cast_signed}
use Rattle.std.proofs.Math.Facts.{to_z-neg}
use Rattle.std.proofs.lemmas.Bool.{cases_lt, and_parts, leb-true, ltb-true, le-leb, le-ltb, lt-ltb, ne_eqb}
use Rattle.std.proofs.lemmas.Int.{to_z_pos, ints}
use Rattle.std.proofs.lemmas.List.{get_or-drop}
use Rattle.byteorder.specs.Endian.{twos_complement}
use Rattle.byteorder.specs.Numbers.{little_from-lt}
use Rattle.values.specs.Reading.{FailsWith, Reading, one}
use Rattle.values.specs.Layouts.{offset_bytes}
use Rattle.values.specs.declared.faults.StreamFault.TheVariants as fault
use Rattle.values.specs.declared.layout.OffsetWidth.{OffsetWidth}
use Rattle.values.specs.declared.layout.OffsetWidth.TheVariants as offset
use Rattle.array_layout.specs.Buffers.{unsigned_at, number_at, offset_at, is_rising}
use Rattle.array_layout.specs.Sound.{offsets_of}
use Rattle.array_layout.proofs.OffsetLemmas.{is_rising-step, is_rising-last}
use Rattle.schema_meta.specs.SignLaw.{
  SignedArrays,
  SignedBound,
  SignedFloor,
  SignedLargeOffsets,
  SignedLength,
  SignedOffsets,
  SignedRange,
  SignedSize,
  AreOffsets,
  signed_offset,
}

-- the number z that the bits n are: n itself in the lower half, negative in the upper one
abbrev IsRead : ℕ → ℕ → ℤ → Type 0
IsRead half n z = ((n < half) × (z ≡ pos n)) ⊎ ((half ≤ n) × (k : ℕ) × (z ≡ negsuc k))

read64 : (n : ℕ) → n < 2 ^ 64 → IsRead (2 ^ 63) n (cast_signed w64 n)
read64 n small = by (cases_lt n (2 ^ 63))
  where
    by : (n < 2 ^ 63) ⊎ (2 ^ 63 ≤ n) → IsRead (2 ^ 63) n (cast_signed w64 n)
    by (inl low) = inl (low, to_z_pos w64 n low)
    by (inr high) =
        let k : ℕ = 2 ^ 64 - suc n in
        let P : ℕ → Type 0 = λ m. cast_signed w64 m ≡ negsuc k in
        let same : 2 ^ 64 - suc k ≡ n = omega (arith, high, small) in
        inr (high, k, subst P same (to_z-neg w64 k (omega (arith, high, small))))

read32 : (n : ℕ) → n < 2 ^ 32 → IsRead (2 ^ 31) n (cast_signed w32 n)
read32 n small = by (cases_lt n (2 ^ 31))
  where
    by : (n < 2 ^ 31) ⊎ (2 ^ 31 ≤ n) → IsRead (2 ^ 31) n (cast_signed w32 n)
    by (inl low) = inl (low, to_z_pos w32 n low)
    by (inr high) =
        let k : ℕ = 2 ^ 32 - suc n in
        let P : ℕ → Type 0 = λ m. cast_signed w32 m ≡ negsuc k in
        let same : 2 ^ 32 - suc k ≡ n = omega (arith, high, small) in
        inr (high, k, subst P same (to_z-neg w32 k (omega (arith, high, small))))

length-by : (n rows : ℕ) (z : ℤ) → rows < 2 ^ 63 → IsRead (2 ^ 63) n z → (n ≡ rows) ↔ (z ≡ pos rows)
length-by n rows z few (inl s) = let is = s.1 in (λ e. is ∙ ap pos e, λ e. omega (arith, ints, is, e))
length-by n rows z few (inr s) =
    let high = s.0 in let is = s.2 in
    (λ e. absurd (omega (arith, high, few, e)), λ e. absurd (omega (arith, ints, is, e)))

range-by : (from len body : ℕ) (a b : ℤ) → body < 2 ^ 63 → IsRead (2 ^ 63) from a → IsRead (2 ^ 63) len b →
    (from + len ≤ body) ↔ ((pos 0 ≤ℤ a) × (pos 0 ≤ℤ b) × ((a +ℤ b) ≤ℤ pos body))
range-by from len body a b few (inl s) (inl t) =
    let p = s.1 in
    let q = t.1 in (
      λ h. (omega (arith, ints, p), omega (arith, ints, q), omega (arith, ints, p, q, h)),
      λ h. let sum = h.2 in omega (arith, ints, p, q, sum),
    )
range-by from len body a b few (inl s) (inr t) =
    let high = t.0 in
    let q = t.2 in
    (λ h. absurd (omega (arith, high, few, h)), λ h. let sign = h.1 in absurd (omega (arith, ints, q, sign)))
range-by from len body a b few (inr s) t =
    let high = s.0 in
    let p = s.2 in
    (λ h. absurd (omega (arith, high, few, h)), λ h. let sign = h.0 in absurd (omega (arith, ints, p, sign)))

offsets-by : (half m n limit : ℕ) (a b : ℤ) → IsRead half m a → IsRead half n b →
    ((m ≤ n) × (n < half) × (n ≤ limit)) ↔ ((pos 0 ≤ℤ a) × (a ≤ℤ b) × (b ≤ℤ pos limit))
offsets-by half m n limit a b (inl s) (inl t) =
    let p = s.1 in
    let low = t.0 in
    let q = t.1 in (
      λ h. let rise = h.0 in let within = h.2 in
          (omega (arith, ints, p), omega (arith, ints, p, q, rise), omega (arith, ints, q, within)),
      λ h. let rise = h.1 in let within = h.2 in (omega (arith, ints, p, q, rise), low, omega (arith, ints, q, within)),
    )
offsets-by half m n limit a b (inl s) (inr t) =
    let p = s.1 in
    let high = t.0 in
    let q = t.2 in (
      λ h. let low = h.1 in absurd (omega (arith, high, low)),
      λ h. let sign = h.0 in let rise = h.1 in absurd (omega (arith, ints, p, q, sign, rise)),
    )
offsets-by half m n limit a b (inr s) t =
    let high = s.0 in
    let p = s.2 in (
      λ h. let rise = h.0 in let low = h.1 in absurd (omega (arith, high, rise, low)),
      λ h. let sign = h.0 in absurd (omega (arith, ints, p, sign)),
    )

size-by : (half n most : ℕ) (z : ℤ) → most < half → IsRead half n z → (n ≤ most) ↔ ((pos 0 ≤ℤ z) × (z ≤ℤ pos most))
size-by half n most z few (inl s) =
    let is = s.1 in (
      λ h. (omega (arith, ints, is), omega (arith, ints, is, h)),
      λ h. let within = h.1 in
          omega (arith, ints, is, within),
    )
size-by half n most z few (inr s) =
    let high = s.0 in
    let is = s.2 in
    (λ h. absurd (omega (arith, high, few, h)), λ h. let sign = h.0 in absurd (omega (arith, ints, is, sign)))

pub signed-length : SignedLength
signed-length n rows small few = length-by n rows (cast_signed w64 n) few (read64 n small)

pub signed-range : SignedRange
signed-range from len body small short few =
    range-by from len body (cast_signed w64 from) (cast_signed w64 len) few (read64 from small) (read64 len short)

pub signed-offsets : SignedOffsets
signed-offsets a b limit small little =
    offsets-by (2 ^ 31) a b limit (cast_signed w32 a) (cast_signed w32 b) (read32 a small) (read32 b little)

pub signed-size : SignedSize
signed-size size most small few = size-by (2 ^ 31) size most (cast_signed w32 size) few (read32 size small)

pub signed-bound : SignedBound
signed-bound n most small few = size-by (2 ^ 63) n most (cast_signed w64 n) few (read64 n small)

floor-by : (n least : ℕ) (z : ℤ) → z ≡ pos n → (least ≤ n) ↔ (pos least ≤ℤ z)
floor-by n least z is = (λ h. omega (arith, ints, is, h), λ h. omega (arith, ints, is, h))

pub signed-floor : SignedFloor
signed-floor n least low = floor-by n least (cast_signed w64 n) (to_z_pos w64 n low)

pub signed-large-offsets : SignedLargeOffsets
signed-large-offsets a b limit small little =
    offsets-by (2 ^ 63) a b limit (cast_signed w64 a) (cast_signed w64 b) (read64 a small) (read64 b little)

-- the offsets of an array

half-of : OffsetWidth → ℕ
half-of o = 2 ^ (8 * offset_bytes o - 1)

below : (x k m : ℕ) → x + suc k ≡ m → pos x -ℤ pos m ≡ negsuc k
below x k m e = omega (arith, ints, e)

read-low : (w x : ℕ) → x < 2 ^ (8 * w - 1) → twos_complement w x ≡ pos x
read-low w x low = rw (lt-ltb x (2 ^ (8 * w - 1)) low) refl

read-high : (w x k : ℕ) → x + suc k ≡ 2 ^ (8 * w) → 2 ^ (8 * w - 1) ≤ x → twos_complement w x ≡ negsuc k
read-high w x k e high =
    let named : twos_complement w x ≡ pos x -ℤ pos (2 ^ (8 * w)) = rw (le-ltb x (2 ^ (8 * w - 1)) high) refl in
    named ∙ below x k (2 ^ (8 * w)) e

read-number : (w x : ℕ) → x < 2 ^ (8 * w) → IsRead (2 ^ (8 * w - 1)) x (twos_complement w x)
read-number w x small = by (cases_lt x (2 ^ (8 * w - 1)))
  where
    by : (x < 2 ^ (8 * w - 1)) ⊎ (2 ^ (8 * w - 1) ≤ x) → IsRead (2 ^ (8 * w - 1)) x (twos_complement w x)
    by (inl low) = inl (low, read-low w x low)
    by (inr high) =
        let k : ℕ = 2 ^ (8 * w) - suc x in
        let sum : x + suc k ≡ 2 ^ (8 * w) = omega (arith, small) in
        inr (high, k, read-high w x k sum high)

bytes-left : (offsets : List ℕ) (n : ℕ) → ((k : ℕ) → slice_index offsets k < 256) → (k : ℕ)
    → slice_index (drop n offsets) k < 256
bytes-left offsets n bytes k =
    let there : slice_index (drop n offsets) k ≡ slice_index offsets (n + k) = get_or-drop n offsets k 0 in
    let small : slice_index offsets (n + k) < 256 = bytes (n + k) in
    omega (arith, there, small)

unsigned-small : (w : ℕ) (offsets : List ℕ) (i : ℕ) → ((k : ℕ) → slice_index offsets k < 256)
    → unsigned_at w offsets i < 256 ^ w
unfolding unsigned_at
unsigned-small w offsets i bytes = little_from-lt 0 w (drop (w * i) offsets) (bytes-left offsets (w * i) bytes)

offset-read :
    (o : OffsetWidth) (offsets : List ℕ) (i : ℕ) → ((k : ℕ) → slice_index offsets k < 256)
    → IsRead (half-of o) (offset_at o offsets i) (signed_offset o offsets i)
unfolding offset_at number_at half-of
offset-read offset.Bits32 offsets i bytes = read-number 4 (unsigned_at 4 offsets i) (unsigned-small 4 offsets i bytes)
offset-read offset.Bits64 offsets i bytes = read-number 8 (unsigned_at 8 offsets i) (unsigned-small 8 offsets i bytes)

low-is : (half n : ℕ) (z : ℤ) → IsRead half n z → n < half → z ≡ pos n
low-is half n z (inl s) low = s.1
low-is half n z (inr s) low = let high = s.0 in absurd (omega (arith, low, high))

positive-is : (half n : ℕ) (z : ℤ) → IsRead half n z → pos 0 ≤ℤ z → (n < half) × (z ≡ pos n)
positive-is half n z (inl s) sign = s
positive-is half n z (inr s) sign = let is = s.2 in absurd (omega (arith, ints, is, sign))

all-rise :
    (o : OffsetWidth) (offsets : List ℕ) (n : ℕ)
    → ((i : ℕ) → i < n → offset_at o offsets i ≤ offset_at o offsets (i + 1))
    → is_rising o offsets n ≡ true
unfolding is_rising
all-rise o offsets zero rise = refl
all-rise o offsets (suc n) rise =
    let before : is_rising o offsets n ≡ true = all-rise o offsets n (λ i h. rise i (omega (arith, h))) in
    let last : nat_le (offset_at o offsets n) (offset_at o offsets (n + 1)) ≡ true =
    le-leb _ _ (rise n (omega arith)) in
    rw (before, last) refl

-- the tests of the definition, together
is-such : OffsetWidth → List ℕ → ℕ → ℕ → Bool
is-such o offsets n limit =
    is_rising o offsets n && (nat_lt (offset_at o offsets n) (half-of o) && nat_le (offset_at o offsets n) limit)

such-are :
    (o : OffsetWidth) (offsets : List ℕ) (n limit : ℕ) → ((k : ℕ) → slice_index offsets k < 256)
    → is-such o offsets n limit ≡ true
    → AreOffsets o offsets n limit
unfolding is-such
such-are o offsets n limit bytes such =
    let tests =
    and_parts (is_rising o offsets n) (nat_lt (offset_at o offsets n) (half-of o)
    && nat_le (offset_at o offsets n) limit) such in
    let ends = and_parts (nat_lt (offset_at o offsets n) (half-of o)) (nat_le (offset_at o offsets n) limit) tests.1 in
    let rises : is_rising o offsets n ≡ true = tests.0 in
    let low : offset_at o offsets n < half-of o = ltb-true _ _ ends.0 in
    let last : offset_at o offsets n ≤ limit = leb-true _ _ ends.1 in
    let named : (i : ℕ) → i ≤ n → signed_offset o offsets i ≡ pos (offset_at o offsets i) =
    λ i h.
    let most : offset_at o offsets i ≤ offset_at o offsets n = is_rising-last o offsets n i rises h in
    low-is (half-of o) (offset_at o offsets i) (signed_offset o offsets i) (offset-read o offsets i bytes)
    (omega (arith, most, low)) in
    record {
      positive = λ i h. let is = named i h in omega (arith, ints, is);
      rising = λ i h.
          let here = named i (omega (arith, h)) in
          let next = named (i + 1) (omega (arith, h)) in
          let step = is_rising-step o offsets n i rises h in
          omega (arith, ints, here, next, step);
      within = λ i h.
          let is = named i h in
          let most = is_rising-last o offsets n i rises h in
          omega (arith, ints, is, most, last);
    }

are-such :
    (o : OffsetWidth) (offsets : List ℕ) (n limit : ℕ) → ((k : ℕ) → slice_index offsets k < 256)
    → AreOffsets o offsets n limit
    → is-such o offsets n limit ≡ true
unfolding is-such
are-such o offsets n limit bytes are =
    let named : (i : ℕ) → i ≤ n → (offset_at o offsets i < half-of o)
    × (signed_offset o offsets i ≡ pos (offset_at o offsets i)) =
    λ i h. positive-is (half-of o) (offset_at o offsets i) (signed_offset o offsets i) (offset-read o offsets i bytes)
    (are.positive i h) in
    let rises : is_rising o offsets n ≡ true =
    all-rise o offsets n
    (λ i h.
    let here = (named i (omega (arith, h))).1 in
    let next = (named (i + 1) (omega (arith, h))).1 in
    let step = are.rising i h in
    omega (arith, ints, here, next, step)) in
    let low : nat_lt (offset_at o offsets n) (half-of o) ≡ true = lt-ltb _ _ (named n (omega arith)).0 in
    let is = (named n (omega arith)).1 in
    let most = are.within n (omega arith) in
    let last : nat_le (offset_at o offsets n) limit ≡ true = le-leb _ _ (omega (arith, ints, is, most)) in
    rw (rises, low, last) refl

tested : Bool → Reading (Unit {0})
tested such = if such then Ok tt else Err (one fault.Offsets)

offsets-tested :
    (o : OffsetWidth) (offsets : List ℕ) (n limit : ℕ) → 0 < n → offset_bytes o * (n + 1) ≤ length offsets
    → offsets_of o offsets n limit ≡ tested (is-such o offsets n limit)
unfolding offsets_of is-such half-of tested
offsets-tested o offsets n limit some room =
    rw (ne_eqb n 0 (λ e. omega (arith, e, some)), le-ltb (length offsets) (offset_bytes o * (n + 1)) room) refl

Says : Reading (Unit {0}) → Type 0 → Type 0
Says m are = ((m ≡ Ok tt) ↔ are) × (FailsWith m fault.Offsets ↔ ¬ are)

tested-says : (such : Bool) (are : Type 0) → (such ≡ true → are) → (are → such ≡ true) → Says (tested such) are
unfolding tested Says
tested-says true are to from = ((λ e. to refl, λ a. refl), (λ stands. absurd stands, λ never. absurd (never (to refl))))
tested-says false are to from = (
  (λ e. absurd (cc), λ a. let never : false ≡ true = from a in absurd (cc)),
  (λ stands a. let never : false ≡ true = from a in absurd (cc), λ never. refl),
)

pub signed-arrays : SignedArrays
unfolding Says
signed-arrays o offsets n limit bytes some room =
    let P : Reading (Unit {0}) → Type 0 = λ m. Says m (AreOffsets o offsets n limit) in
    subst P (sym (offsets-tested o offsets n limit some room))
    (tested-says (is-such o offsets n limit) (AreOffsets o offsets n limit) (such-are o offsets n limit bytes)
    (are-such o offsets n limit bytes))
