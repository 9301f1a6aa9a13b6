-- What the bytes of a FlatBuffer mean. A function into `Option` gives `None` where a byte that it reads lies outside
-- the buffer.
use Rattle.std.specs.Prelude.{
  ℕ,
  ◌+◌,
  ◌-◌,
  ◌*◌,
  ◌^◌,
  ℤ,
  List,
  length,
  take,
  drop,
  Option,
  Some,
  None,
  nat_lt,
  nat_le,
  ◌==◌,
  if◌then◌else◌,
}
use Rattle.std.specs.Int.{Width, byte_len, cast_signed}
use Rattle.std.specs.Option.{option_map}
use Rattle.byteorder.specs.Endian.{little_number}

infixl 10 ◌>>=◌
-- the second is read only where the first could be
abbrev pub ◌>>=◌ : {A B : Type 0} → Option A → (A → Option B) → Option B
None >>= next = None
(Some x) >>= next = next x

-- FlatBuffers binary format, "Format components": the number of n bytes at position p is little endian.
unfoldable pub number_at : ℕ → List ℕ → ℕ → Option ℕ
number_at n bytes p = if nat_le (p + n) (length bytes) then Some (little_number n (drop p bytes)) else None

-- the same in two's complement
unfoldable pub signed_at : Width → List ℕ → ℕ → Option ℤ
signed_at w bytes p = option_map (λ n. cast_signed w n) (number_at (byte_len w) bytes p)

-- FlatBuffers binary format, "Offsets": what is stored elsewhere lies at an offset of 32 bits from the position of that
-- offset.
unfoldable pub target_at : List ℕ → ℕ → Option ℕ
target_at bytes p = option_map (λ distance. p + distance) (number_at 4 bytes p)

-- the n bytes at position p
unfoldable pub bytes_at : ℕ → List ℕ → ℕ → Option (List ℕ)
bytes_at n bytes p = if nat_le (p + n) (length bytes) then Some (take n (drop p bytes)) else None

-- FlatBuffers binary format, "Vectors", "Strings": a count of 32 bits, and the elements, each of this width. A string
-- is a vector of bytes; the zero byte after it is not read.
unfoldable pub block_at : ℕ → List ℕ → ℕ → Option (List ℕ)
block_at width bytes p = number_at 4 bytes p >>= λ count. bytes_at (count * width) bytes (p + 4)

-- FlatBuffers binary format, "Tables": a table lies at a position, and begins with the signed offset back to its vtable
pub record Table : Type 0 where
  pub bytes : List ℕ
  pub place : ℕ

pub record Vtable : Type 0 where
  pub place : ℕ
  pub size : ℕ

abbrev pub table_in : List ℕ → ℕ → Table
table_in bytes p = record { bytes = bytes; place = p }

-- p less the signed number whose 32 bits are n, where the difference is not negative
unfoldable pub place_of_vtable : ℕ → ℕ → Option ℕ
place_of_vtable p n =
    if nat_lt n (2 ^ 31) then (if nat_le n p then Some (p - n) else None) else Some (p + (2 ^ 32 - n))

-- A vtable begins with its own size in bytes and the table's, 16 bits each. So its own size is no less than 4. The
-- table's is not read.
abbrev pub checked_size : ℕ → Option ℕ
checked_size size = if nat_lt size 4 then None else Some size

unfoldable pub vtable_at : List ℕ → ℕ → Option Vtable
vtable_at bytes p = do
  distance ← number_at 4 bytes p
  place ← place_of_vtable p distance
  size ← number_at 2 bytes place
  enough ← checked_size size
  Some (record { place = place; size = enough })

unfoldable pub table_at : List ℕ → ℕ → Option Table
table_at bytes p = option_map (λ vtable. table_in bytes p) (vtable_at bytes p)

-- The buffer begins with the offset to its root table.
unfoldable pub root_of : List ℕ → Option Table
root_of bytes = target_at bytes 0 >>= table_at bytes

-- A vtable has 16 bits for each slot: how far after the table's position the field lies. A slot is absent where this is
-- 0, or is not wholly within the vtable's own size.
abbrev pub field_place : Table → ℕ → Option ℕ
field_place t offset = if offset == 0 then None else Some (t.place + offset)

abbrev pub slot_in : Table → Vtable → ℕ → Option (Option ℕ)
slot_in t vtable k =
    if nat_lt vtable.size (4 + 2 * k + 2) then Some None
    else option_map (field_place t) (number_at 2 t.bytes (vtable.place + 4 + 2 * k))

-- the position of the k-th slot's field: `Some None` where the slot is absent
unfoldable pub slot_of : Table → ℕ → Option (Option ℕ)
slot_of t k = vtable_at t.bytes t.place >>= λ vtable. slot_in t vtable k

-- An absent field has no value to be read.
abbrev pub if_present : {A : Type 0} → (ℕ → Option A) → Option ℕ → Option (Option A)
if_present read None = Some None
if_present read (Some p) = option_map (λ x. Some x) (read p)

-- Numbers are stored in the table itself.
unfoldable pub number_of : ℕ → Table → ℕ → Option (Option ℕ)
number_of n t k = slot_of t k >>= if_present (number_at n t.bytes)

unfoldable pub signed_of : Width → Table → ℕ → Option (Option ℤ)
signed_of w t k = slot_of t k >>= if_present (signed_at w t.bytes)

-- Strings, vectors and tables are stored at an offset.
unfoldable pub structs_of : ℕ → Table → ℕ → Option (Option (List ℕ))
structs_of width t k = slot_of t k >>= if_present (λ p. target_at t.bytes p >>= block_at width t.bytes)

abbrev pub text_of : Table → ℕ → Option (Option (List ℕ))
text_of t k = structs_of 1 t k

unfoldable pub subtable_of : Table → ℕ → Option (Option Table)
subtable_of t k = slot_of t k >>= if_present (λ p. target_at t.bytes p >>= table_at t.bytes)

-- A vector of tables: the position of its first element, and their number. Each element is the offset to a table.
pub record Vector : Type 0 where
  pub bytes : List ℕ
  pub start : ℕ
  pub count : ℕ

unfoldable pub vector_at : List ℕ → ℕ → Option Vector
vector_at bytes p = option_map (λ count. record { bytes = bytes; start = p + 4; count = count }) (number_at 4 bytes p)

unfoldable pub vector_of : Table → ℕ → Option (Option Vector)
vector_of t k = slot_of t k >>= if_present (λ p. target_at t.bytes p >>= vector_at t.bytes)

unfoldable pub entry_of : Vector → ℕ → Option Table
entry_of v i = target_at v.bytes (v.start + 4 * i) >>= table_at v.bytes
