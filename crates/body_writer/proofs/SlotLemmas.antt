-- Slots of a fixed width in bytes.
use Rattle.std.proofs.Common.{
  ◌≡◌,
  ℕ,
  ◌+◌,
  ◌*◌,
  ◌-◌,
  ◌<◌,
  ◌≤◌,
  List,
  [],
  length,
  true,
  false,
  Bool,
  Ok,
  Err,
  None,
  refl,
  ap,
  sym,
  subst,
  ◌∙◌,
  arith,
}
use Rattle.std.specs.Prelude.{replicate, slice_range, slice_index, if◌then◌else◌, nat_lt, nat_abs, ◌^◌, ℤ}
use Rattle.std.specs.List.{flat_map}
use Rattle.std.proofs.Math.Nat.{mul-le-mul_left}
use Rattle.values.specs.Datum.{Datum, null, whole}
use Rattle.values.specs.Reading.{Reading, IsValid, one}
use Rattle.values.specs.Rose.{Roses, node}
use Rattle.values.specs.declared.faults.StreamFault.TheVariants as fault
use Rattle.values.specs.declared.layout.IntWidth.{IntWidth}
use Rattle.values.specs.declared.layout.IntWidth.TheVariants as int
use Rattle.values.specs.declared.layout.Layout.{Layout}
use Rattle.values.specs.declared.layout.Layout.TheVariants.{
  Bool as Booleans,
  Int,
  Decimal,
  FixedSizeBinary,
  Utf8,
  Binary,
  List as Listed,
  Struct,
}
use Rattle.values.specs.Layouts.{bytes_in as width_of}
use Rattle.array_layout.specs.declared.array.ArrayData.{ArrayData}
use Rattle.array_layout.specs.Placing.{bytes_of}
use Rattle.array_layout.specs.Buffers.{is_null, number_at, fixed_at}
use Rattle.array_layout.specs.Sound.{IsSound, HasRoom, first_len}
use Rattle.array_layout.specs.Cells.{cell, cell_by, slot_by, value_by, first_cell, row, decimal_of}
use Rattle.body_writer.specs.Runs.{cell_in, slots, slot_width, slot_bytes, AreAlike}
use Rattle.body_writer.proofs.RunLemmas.{flat-nulls, flat-valid, null-cell, range-long}
use Rattle.body_writer.proofs.NumberBytes.{int-bytes, decimal-bytes, next-place}

-- no fault in the slots from `at` to `end`
abbrev pub AllValid : List ℕ → ArrayData → Roses ArrayData → ℕ → ℕ → Type 0
AllValid body p kids at end = (k : ℕ) → at ≤ k → k < end → IsValid (cell body (node p kids) k)

valid-slot :
    (body : List ℕ) (p : ArrayData) (kids : Roses ArrayData) (k : ℕ) → is_null (bytes_of body p.validity) k ≡ false
    → cell body (node p kids) k ≡ slot_by p.dictionary body p (λ j. first_cell body kids j) (λ j. row body kids j) k
unfolding cell_by
valid-slot body p kids k h = rw h refl

-- the cell of a slot that is valid
pub plain-cell :
    (body : List ℕ) (p : ArrayData) (kids : Roses ArrayData) (l : Layout) (k : ℕ) → p.layout ≡ l → p.dictionary ≡ None
    → is_null (bytes_of body p.validity) k ≡ false
    → cell body (node p kids) k ≡ value_by l body p (λ j. first_cell body kids j) (λ j. row body kids j) k
plain-cell body p kids l k e n h =
    valid-slot body p kids k h ∙ ap (λ d. slot_by d body p (λ j. first_cell body kids j) (λ j. row body kids j) k) n
    ∙ ap (λ y. value_by y body p (λ j. first_cell body kids j) (λ j. row body kids j) k) e

empty-range : (xs : List ℕ) (k : ℕ) → [] ≡ slice_range xs (0 * k) (0 * (k + 1))
empty-range xs k =
    let a : 0 * k ≡ 0 = omega arith in
    let b : 0 * (k + 1) ≡ 0 = omega arith in
    rw (a, b) refl

decimal-valid : (d : ℕ) (z : ℤ) → IsValid {X = Datum} (decimal_of d z) → cell_in (decimal_of d z) ≡ whole z
decimal-valid d z h = by_test (nat_lt (nat_abs z) (10 ^ d)) h where
  by_test : (b : Bool) → IsValid {X = Datum} (if b then Ok (whole z) else Err (one fault.DecimalRange))
      → cell_in (if b then Ok (whole z) else Err (one fault.DecimalRange)) ≡ whole z
  by_test true h = refl
  by_test false h = absurd h

slot-value :
    (l : Layout) (body : List ℕ) (p : ArrayData) (item : ℕ → Reading Datum) (others : ℕ → Reading (List Datum)) (k : ℕ)
    → ((n : ℕ) → slice_index (bytes_of body p.values) n < 256)
    → slot_width l * (k + 1) ≤ length (bytes_of body p.values)
    → IsValid (value_by l body p item others k)
    → slot_bytes l (cell_in (value_by l body p item others k))
    ≡ slice_range (bytes_of body p.values) (slot_width l * k) (slot_width l * (k + 1))
unfolding fixed_at
slot-value Booleans body p item others k small room h = empty-range (bytes_of body p.values) k
slot-value (Int w s) body p item others k small room h = int-bytes w s (bytes_of body p.values) k small room
slot-value (Decimal d) body p item others k small room h =
    let z : ℤ = number_at true 16 (bytes_of body p.values) k in
    ap (slot_bytes (Decimal d)) (decimal-valid d z h) ∙ decimal-bytes (bytes_of body p.values) k small room
slot-value (FixedSizeBinary w) body p item others k small room h =
    ap (slice_range (bytes_of body p.values) (w * k)) (sym (next-place w k))
slot-value (Utf8 o) body p item others k small room h = empty-range (bytes_of body p.values) k
slot-value (Binary o) body p item others k small room h = empty-range (bytes_of body p.values) k
slot-value (Listed o) body p item others k small room h = empty-range (bytes_of body p.values) k
slot-value Struct body p item others k small room h = empty-range (bytes_of body p.values) k

null-int : (w : IntWidth) (s : Bool) → slot_bytes (Int w s) null ≡ replicate (width_of w) 0
null-int int.Bits8 s = refl
null-int int.Bits16 s = refl
null-int int.Bits32 s = refl
null-int int.Bits64 s = refl

pub slot-null : (l : Layout) → slot_bytes l null ≡ replicate (slot_width l) 0
slot-null Booleans = refl
slot-null (Int w s) = null-int w s
slot-null (Decimal d) = refl
slot-null (FixedSizeBinary w) = refl
slot-null (Utf8 o) = refl
slot-null (Binary o) = refl
slot-null (Listed o) = refl
slot-null Struct = refl

-- a run of nulls
pub slots-null :
    (body bits : List ℕ) (p : ArrayData) (kids : Roses ArrayData) (m at end : ℕ) → bits ≡ bytes_of body p.validity
    → m ≡ slot_width p.layout → at ≤ end → is_null bits at ≡ true → AreAlike bits at end
    → replicate (m * (end - at)) 0 ≡ flat_map (slot_bytes p.layout) (slots (cell body (node p kids)) at (end - at))
slots-null body bits p kids m at end b e h is same =
    ap (λ n. replicate (n * (end - at)) 0) e
    ∙ sym (flat-nulls (slot_bytes p.layout) (cell body (node p kids)) (slot_width p.layout) at (end - at) (slot-null
    p.layout)
    (λ k l u. null-cell body p kids k (ap (λ xs. is_null xs k) (sym b) ∙ same k l (omega (arith, u, h)) ∙ is)))

pub slots-valid :
    (body bits xs : List ℕ) (p : ArrayData) (kids : Roses ArrayData) (m at end : ℕ) → bits ≡ bytes_of body p.validity
    → xs ≡ bytes_of body p.values → m ≡ slot_width p.layout → at ≤ end → end ≤ p.len → p.dictionary ≡ None
    → AllValid body p kids at end → ((n : ℕ) → slice_index xs n < 256) → m * end ≤ length xs
    → is_null bits at ≡ false → AreAlike bits at end
    → slice_range xs (m * at) (m * end) ≡ flat_map (slot_bytes p.layout) (slots (cell body (node p kids)) at (end - at))
slots-valid body bits xs p kids m at end b v e h inside n valid small room is same =
    let w : ℕ = slot_width p.layout in
    let past : at + (end - at) ≡ end = omega (arith, h) in
    let fits : w * end ≤ length xs = subst (λ k. k * end ≤ length xs) e room in
    ap (λ k. slice_range xs (k * at) (k * end)) e ∙ ap (λ k. slice_range xs (w * at) (w * k)) (sym past)
    ∙ sym (flat-valid (slot_bytes p.layout) (cell body (node p kids)) (λ k. w * k) xs at (end - at)
    (λ k lo hi. slot-here k (same k lo (omega (arith, hi, h))
    ∙ is) (omega (arith, hi, h)) fits (valid k lo (omega (arith, hi, h))))
    (λ k lo hi. let up : k ≤ k + 1 = omega arith in mul-le-mul_left w up))
  where
    slot-here : (k : ℕ) → is_null bits k ≡ false → k + 1 ≤ end → slot_width p.layout * end ≤ length xs
        → IsValid (cell body (node p kids) k) → slot_bytes p.layout (cell_in (cell body (node p kids) k)) ≡ slice_range
        xs (slot_width p.layout * k) (slot_width p.layout * (k + 1))
    slot-here k valid_here below fits good =
        let w : ℕ = slot_width p.layout in
        let read = plain-cell body p kids p.layout k refl n (ap (λ ys. is_null ys k) (sym b) ∙ valid_here) in
        let within = mul-le-mul_left w below in
        let long = ap length v in
        let bytes : (i : ℕ) → slice_index (bytes_of body p.values) i < 256 = subst (λ ys. (i : ℕ)
        → slice_index ys i < 256) v small in
        ap (λ r. slot_bytes p.layout (cell_in r)) read
        ∙ slot-value p.layout body p (λ j. first_cell body kids j) (λ j. row body kids j) k bytes (omega (
          arith,
          within,
          fits,
          long,
        ))
        (subst IsValid read good)
        ∙ ap (λ ys. slice_range ys (w * k) (w * (k + 1))) (sym v)

room-by : (l : Layout) (body : List ℕ) (p : ArrayData) (limit : ℕ) → HasRoom l body p limit
    → slot_width l * p.len ≤ p.values.len
room-by Booleans body p limit room = omega arith
room-by (Int w s) body p limit room = room
room-by (Decimal d) body p limit room = room
room-by (FixedSizeBinary w) body p limit room = room
room-by (Utf8 o) body p limit room = omega arith
room-by (Binary o) body p limit room = omega arith
room-by (Listed o) body p limit room = omega arith
room-by Struct body p limit room = omega arith

pub slots-room :
    (body xs : List ℕ) (p : ArrayData) (kids : Roses ArrayData) (m end : ℕ) → xs ≡ bytes_of body p.values
    → m ≡ slot_width p.layout → IsSound body (node p kids) → end ≤ p.len → m * end ≤ length xs
slots-room body xs p kids m end v e sound h =
    let room = room-by p.layout body p (first_len kids) sound.0.room in
    let long = ap length v ∙ range-long body p.values sound.0.own.values in
    let fits = mul-le-mul_left (slot_width p.layout) h in
    subst (λ k. k * end ≤ length xs) (sym e) (omega (arith, fits, room, long))
