-- What the buffers of an array hold (Arrow Columnar Format, "Validity bitmaps", "Fixed-Size Primitive Layout",
-- "Variable-size Binary Layout", "Variable-size List Layout"). Buffers are lists of bytes.
use Rattle.std.specs.Prelude.{
  ℕ,
  ℤ,
  zero,
  suc,
  pos,
  Bool,
  true,
  false,
  List,
  ◌+◌,
  ◌*◌,
  ◌-◌,
  ◌==◌,
  ◌&&◌,
  if◌then◌else◌,
  not,
  length,
  drop,
  nat_le,
  slice_range,
}
use Rattle.byteorder.specs.Endian.{little_number, twos_complement}
use Rattle.bitmaps.specs.Bits.{bit_at, bits_at, ones}
use Rattle.values.specs.declared.layout.OffsetWidth.{OffsetWidth}
use Rattle.values.specs.Layouts.{offset_bytes}

-- how many of the first n bits are 0
unfoldable pub zeros : List ℕ → ℕ → ℕ
zeros bits n = n - ones (bits_at bits 0 n)

-- Slot i is null where its bit is 0. Where the validity buffer has length 0, no slot is null.
unfoldable pub is_null : List ℕ → ℕ → Bool
is_null bits i = if length bits == 0 then false else not (bit_at bits i)

-- the w bytes of slot i, as a number without a sign
unfoldable pub unsigned_at : ℕ → List ℕ → ℕ → ℕ
unsigned_at w bytes i = little_number w (drop (w * i) bytes)

-- the number of w bytes, in two's complement where it has a sign
abbrev pub number_by : Bool → ℕ → ℕ → ℤ
number_by true w n = twos_complement w n
number_by false w n = pos n

unfoldable pub number_at : Bool → ℕ → List ℕ → ℕ → ℤ
number_at signed w bytes i = number_by signed w (unsigned_at w bytes i)

-- the w bytes of slot i
unfoldable pub fixed_at : ℕ → List ℕ → ℕ → List ℕ
fixed_at w bytes i = slice_range bytes (w * i) (w * i + w)

-- offset i, read without its sign: a negative one is at least half of what its width holds
unfoldable pub offset_at : OffsetWidth → List ℕ → ℕ → ℕ
offset_at o offsets i = unsigned_at (offset_bytes o) offsets i

-- none of the offsets 1 to n is below the one before it
unfoldable pub is_rising : OffsetWidth → List ℕ → ℕ → Bool
is_rising o offsets zero = true
is_rising o offsets (suc n) = is_rising o offsets n && nat_le (offset_at o offsets n) (offset_at o offsets (n + 1))

-- the bytes from offset i to offset i + 1
unfoldable pub slice_at : OffsetWidth → List ℕ → List ℕ → ℕ → List ℕ
slice_at o offsets bytes i = slice_range bytes (offset_at o offsets i) (offset_at o offsets (i + 1))
