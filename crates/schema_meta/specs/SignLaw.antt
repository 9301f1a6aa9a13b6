-- Arrow's sizes, lengths and offsets have a sign. The definitions compare their bits without one: that is to compare
-- the signed numbers where none of them is negative, and to refuse a negative one.
use Rattle.std.specs.Prelude.{
  ◌≡◌,
  ℕ,
  ℤ,
  pos,
  true,
  List,
  Ok,
  length,
  slice_index,
  ◌+◌,
  ◌*◌,
  ◌^◌,
  ◌<◌,
  ◌≤◌,
  ◌≤ℤ◌,
  ◌+ℤ◌,
  ◌↔◌,
}
use Rattle.std.specs.Int.{w32, w64, cast_signed}
use Rattle.values.specs.Reading.{FailsWith}
use Rattle.values.specs.Layouts.{offset_bytes}
use Rattle.values.specs.declared.faults.StreamFault.TheVariants as fault
use Rattle.values.specs.declared.layout.OffsetWidth.{OffsetWidth}
use Rattle.array_layout.specs.Buffers.{number_at}
use Rattle.array_layout.specs.Sound.{offsets_of}

-- a node's length is that of its batch
abbrev pub SignedLength : Type 0
SignedLength = (n rows : ℕ) → n < 2 ^ 64 → rows < 2 ^ 63 → (n ≡ rows) ↔ (cast_signed w64 n ≡ pos rows)

-- a node's length is at most a limit
abbrev pub SignedBound : Type 0
SignedBound =
    (n most : ℕ) → n < 2 ^ 64 → most < 2 ^ 63
    → (n ≤ most) ↔ ((pos 0 ≤ℤ cast_signed w64 n) × (cast_signed w64 n ≤ℤ pos most))

-- a node's length is at least another number, as in the children of a struct
abbrev pub SignedFloor : Type 0
SignedFloor = (n least : ℕ) → n < 2 ^ 63 → (least ≤ n) ↔ (pos least ≤ℤ cast_signed w64 n)

-- a buffer lies within its body
abbrev pub SignedRange : Type 0
SignedRange =
    (from len body : ℕ) → from < 2 ^ 64 → len < 2 ^ 64 → body < 2 ^ 63
    → (from + len ≤ body)
    ↔ ((pos 0 ≤ℤ cast_signed w64 from) × (pos 0 ≤ℤ cast_signed w64 len)
    × ((cast_signed w64 from +ℤ cast_signed w64 len) ≤ℤ pos body))

-- offsets rise, and the last of them is within the values
abbrev pub SignedOffsets : Type 0
SignedOffsets =
    (a b limit : ℕ) → a < 2 ^ 32 → b < 2 ^ 32
    → ((a ≤ b) × (b < 2 ^ 31) × (b ≤ limit))
    ↔ ((pos 0 ≤ℤ cast_signed w32 a) × (cast_signed w32 a ≤ℤ cast_signed w32 b) × (cast_signed w32 b ≤ℤ pos limit))

-- the same of offsets of 64 bits
abbrev pub SignedLargeOffsets : Type 0
SignedLargeOffsets =
    (a b limit : ℕ) → a < 2 ^ 64 → b < 2 ^ 64
    → ((a ≤ b) × (b < 2 ^ 63) × (b ≤ limit))
    ↔ ((pos 0 ≤ℤ cast_signed w64 a) × (cast_signed w64 a ≤ℤ cast_signed w64 b) × (cast_signed w64 b ≤ℤ pos limit))

-- offset i, with its sign
abbrev pub signed_offset : OffsetWidth → List ℕ → ℕ → ℤ
signed_offset o offsets i = number_at true (offset_bytes o) offsets i

-- Of the offsets of n slots none is negative, none is above the next, and none is above `limit`.
pub record AreOffsets (o : OffsetWidth) (offsets : List ℕ) (n limit : ℕ) : Type 0 where
  pub positive : (i : ℕ) → i ≤ n → pos 0 ≤ℤ signed_offset o offsets i
  pub rising : (i : ℕ) → i < n → signed_offset o offsets i ≤ℤ signed_offset o offsets (i + 1)
  pub within : (i : ℕ) → i ≤ n → signed_offset o offsets i ≤ℤ pos limit

-- Where the bytes can hold the offsets of some slots, they have no fault exactly where these are `AreOffsets`, and the
-- fault 24 otherwise.
abbrev pub SignedArrays : Type 0
SignedArrays =
    (o : OffsetWidth) (offsets : List ℕ) (n limit : ℕ) → ((k : ℕ) → slice_index offsets k < 256) → 0 < n
    → offset_bytes o * (n + 1) ≤ length offsets
    → ((offsets_of o offsets n limit ≡ Ok tt) ↔ AreOffsets o offsets n limit)
    × (FailsWith (offsets_of o offsets n limit) fault.Offsets ↔ ¬ (AreOffsets o offsets n limit))

-- the size of a message's metadata is within its limit
abbrev pub SignedSize : Type 0
SignedSize =
    (size most : ℕ) → size < 2 ^ 32 → most < 2 ^ 31
    → (size ≤ most) ↔ ((pos 0 ≤ℤ cast_signed w32 size) × (cast_signed w32 size ≤ℤ pos most))
