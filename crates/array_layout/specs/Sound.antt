-- The faults of an array's buffers, by its length and its number of nulls: 22 BufferShort, 23 NullCount and 24 Offsets.
use Rattle.std.specs.Prelude.{
  ℕ,
  ℤ,
  pos,
  List,
  Ok,
  Err,
  ◌+◌,
  ◌*◌,
  ◌-◌,
  ◌^◌,
  ◌<◌,
  ◌≤◌,
  ◌==◌,
  ◌&&◌,
  if◌then◌else◌,
  length,
  nat_lt,
  nat_le,
}
use Rattle.std.specs.Ordering.{int_eq}
use Rattle.values.specs.Limits.{max_node_length}
use Rattle.values.specs.Reading.{Reading, one, both, second}
use Rattle.values.specs.Rose.{Rose, node, Roses, none, more}
use Rattle.values.specs.declared.faults.StreamFault.TheVariants as fault
use Rattle.values.specs.declared.layout.OffsetWidth.{OffsetWidth}
use Rattle.values.specs.declared.layout.Layout.{Layout}
use Rattle.values.specs.declared.layout.Layout.TheVariants.{
  Bool as Booleans,
  Int,
  Decimal,
  FixedSizeBinary,
  Utf8,
  Binary,
  List as Listed,
  Struct,
}
use Rattle.values.specs.Layouts.{bytes_in, offset_bytes, IsNode}
use Rattle.array_layout.specs.declared.array.BufferRange.{BufferRange}
use Rattle.array_layout.specs.declared.array.ArrayData.{ArrayData}
use Rattle.array_layout.specs.Placing.{bytes_of, layouts_of}
use Rattle.array_layout.specs.Buffers.{zeros, offset_at, is_rising}

-- Validity may be left out where nothing is null; else it has a bit for each slot, and as many are 0 as the null count
-- says.
unfoldable pub validity_of : List ℕ → ℕ → ℤ → Reading (Unit {0})
validity_of bits n nulls =
    if length bits == 0 then (if int_eq nulls (pos 0) then Ok tt else Err (one fault.NullCount))
    else if nat_lt (8 * length bits) n then Err (one fault.BufferShort)
    else if int_eq nulls (pos (zeros bits n)) then Ok tt
    else Err (one fault.NullCount)

-- a bit for each slot
unfoldable pub bits_of : List ℕ → ℕ → Reading (Unit {0})
bits_of bits n = if nat_lt (8 * length bits) n then Err (one fault.BufferShort) else Ok tt

-- w bytes for each slot
unfoldable pub slots_of : ℕ → List ℕ → ℕ → Reading (Unit {0})
slots_of w bytes n = if nat_lt (length bytes) (w * n) then Err (one fault.BufferShort) else Ok tt

-- One offset more than there are slots, none where there is no slot. They rise, none is negative, and the last is
-- within what they point into: since they rise, that of the last is enough.
unfoldable pub offsets_of : OffsetWidth → List ℕ → ℕ → ℕ → Reading (Unit {0})
offsets_of o offsets n limit =
    if n == 0 then Ok tt
    else if nat_lt (length offsets) (offset_bytes o * (n + 1)) then Err (one fault.BufferShort)
    else if is_rising o offsets n
    && (nat_lt (offset_at o offsets n) (2 ^ (8 * offset_bytes o - 1)) && nat_le (offset_at o offsets n) limit)
    then Ok tt
    else Err (one fault.Offsets)

-- the buffers but validity, by layout; the offsets of a list point into `slots` slots
abbrev pub values_by : Layout → List ℕ → ArrayData → ℕ → Reading (Unit {0})
values_by Booleans body p slots = bits_of (bytes_of body p.values) p.len
values_by (Int w s) body p slots = slots_of (bytes_in w) (bytes_of body p.values) p.len
values_by (Decimal d) body p slots = slots_of 16 (bytes_of body p.values) p.len
values_by (FixedSizeBinary w) body p slots = slots_of w (bytes_of body p.values) p.len
values_by (Utf8 o) body p slots = offsets_of o (bytes_of body p.offsets) p.len p.values.len
values_by (Binary o) body p slots = offsets_of o (bytes_of body p.offsets) p.len p.values.len
values_by (Listed o) body p slots = offsets_of o (bytes_of body p.offsets) p.len slots
values_by Struct body p slots = Ok tt

-- the faults of an array's own buffers; the offsets of a list point into `slots` slots
unfoldable pub own_faults : List ℕ → ArrayData → ℕ → Reading (Unit {0})
own_faults body p slots =
    both second (validity_of (bytes_of body p.validity) p.len p.nulls) (values_by p.layout body p slots)

-- the slots of the first child
abbrev pub first_len : Roses ArrayData → ℕ
first_len none = 0
first_len (more (node p kids) ts) = p.len

-- the faults of an array and of all arrays below it
abbrev mutual
  pub faults_in : List ℕ → Rose ArrayData → Reading (Unit {0})
  faults_in body (node p kids) = both second (own_faults body p (first_len kids)) (faults_below body kids)

  pub faults_below : List ℕ → Roses ArrayData → Reading (Unit {0})
  faults_below body none = Ok tt
  faults_below body (more t ts) = both second (faults_in body t) (faults_below body ts)

-- A buffer lies within the body.
abbrev pub LiesIn : List ℕ → BufferRange → Type 0
LiesIn body s = s.from + s.len ≤ length body

-- What the checks of a message's metadata have shown before the body is looked at: an array's buffers lie within the
-- body, its length is below 2^31, and it has the children that its layout requires.
pub record IsArrayData (body : List ℕ) (p : ArrayData) (kids : Roses ArrayData) : Type 0 where
  pub validity : LiesIn body p.validity
  pub offsets : LiesIn body p.offsets
  pub values : LiesIn body p.values
  pub small : p.len ≤ max_node_length
  pub kids_fit : IsNode p.layout (layouts_of kids)

-- The children of a struct of n slots have at least n slots.
abbrev pub AreLong : Layout → ℕ → Roses ArrayData → Type 0
AreLong Struct n none = Unit {0}
AreLong Struct n (more (node p kids) ts) = (n ≤ p.len) × AreLong Struct n ts
AreLong l n kids = Unit {0}

-- the same of an array and all arrays below it, and the children of structs are long enough
abbrev mutual
  pub IsPlaced : List ℕ → Rose ArrayData → Type 0
  IsPlaced body (node p kids) = IsArrayData body p kids × AreLong p.layout p.len kids × ArePlaced body kids

  pub ArePlaced : List ℕ → Roses ArrayData → Type 0
  ArePlaced body none = Unit {0}
  ArePlaced body (more t ts) = IsPlaced body t × ArePlaced body ts

-- the offsets of n slots are valid for the values into which they point
pub record AreFit (o : OffsetWidth) (offsets : List ℕ) (n limit : ℕ) : Type 0 where
  pub room : offset_bytes o * (n + 1) ≤ length offsets
  pub rising : (i : ℕ) → i < n → offset_at o offsets i ≤ offset_at o offsets (i + 1)
  pub within : (i : ℕ) → i < n → offset_at o offsets (i + 1) ≤ limit

-- the buffers but validity are long enough, and the offsets are valid
abbrev pub HasRoom : Layout → List ℕ → ArrayData → ℕ → Type 0
HasRoom Booleans body p slots = p.len ≤ 8 * p.values.len
HasRoom (Int w s) body p slots = bytes_in w * p.len ≤ p.values.len
HasRoom (Decimal d) body p slots = 16 * p.len ≤ p.values.len
HasRoom (FixedSizeBinary w) body p slots = w * p.len ≤ p.values.len
HasRoom (Utf8 o) body p slots = 0 < p.len → AreFit o (bytes_of body p.offsets) p.len p.values.len
HasRoom (Binary o) body p slots = 0 < p.len → AreFit o (bytes_of body p.offsets) p.len p.values.len
HasRoom (Listed o) body p slots = 0 < p.len → AreFit o (bytes_of body p.offsets) p.len slots
HasRoom Struct body p slots = Unit {0}

-- what is known of an array once its own buffers were checked
pub record IsSoundData (body : List ℕ) (p : ArrayData) (kids : Roses ArrayData) : Type 0 where
  pub own : IsArrayData body p kids
  pub bits : 0 < p.validity.len → p.len ≤ 8 * p.validity.len
  pub room : HasRoom p.layout body p (first_len kids)

-- and once those of all arrays below it were
abbrev mutual
  pub IsSound : List ℕ → Rose ArrayData → Type 0
  IsSound body (node p kids) = IsSoundData body p kids × AreLong p.layout p.len kids × AreSound body kids

  pub AreSound : List ℕ → Roses ArrayData → Type 0
  AreSound body none = Unit {0}
  AreSound body (more t ts) = IsSound body t × AreSound body ts
