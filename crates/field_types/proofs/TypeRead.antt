-- What is written for a type is read as that type.
use Rattle.std.proofs.Common.{
  ◌≡◌,
  ℕ,
  ◌*◌,
  ◌≤◌,
  ◌<◌,
  ◌^◌,
  Bool,
  true,
  false,
  List,
  [],
  ◌∷◌,
  length,
  Some,
  None,
  Ok,
  refl,
  arith,
}
use Rattle.std.specs.Prelude.{ℤ, pos}
use Rattle.std.specs.Int.{w16, w32}
use Rattle.std.specs.Str.{is_utf8}
use Rattle.std.proofs.lemmas.Bool.{le-leb}
use Rattle.std.proofs.lemmas.Int.{to_z_pos}
use Rattle.flatbuf.specs.Tree.{number, table}
use Rattle.flatbuf.specs.Layout.{Table, table_in, slot_of, structs_of}
use Rattle.flatbuf.specs.Held.{NodeHeld, Held}
use Rattle.flatbuf.proofs.ReaderAnswers.{number-read, signed-read, text-read, subtable-read}
use Rattle.values.specs.Limits.{max_name_len, max_precision, max_fixed_width}
use Rattle.values.specs.Layouts.{bytes_in}
use Rattle.values.specs.declared.layout.IntWidth.{IntWidth}
use Rattle.values.specs.declared.layout.IntWidth.TheVariants as int
use Rattle.values.specs.declared.layout.OffsetWidth.TheVariants as offset
use Rattle.values.specs.declared.units.DateUnit.{DateUnit}
use Rattle.values.specs.declared.units.DateUnit.TheVariants as date
use Rattle.values.specs.declared.units.TimeUnit.{TimeUnit}
use Rattle.values.specs.declared.units.TimeUnit.TheVariants as time
use Rattle.values.specs.declared.col_type.ColType.{ColType}
use Rattle.values.specs.declared.col_type.ColType.TheVariants as stored
use Rattle.field_types.specs.SchemaFbs as fbs
use Rattle.field_types.specs.Reads.{bool_of, short_of, i32_of}
use Rattle.field_types.specs.Kinds.{kind_numbered, kind_of, kind_of_type}
use Rattle.field_types.specs.Types.{
  ranged,
  width_of,
  int_of,
  precision_of,
  digits_of,
  wide_of,
  decimal_of,
  date_of,
  time_unit_of,
  time_of,
  zone_of,
  timestamp_of,
  duration_of,
  fixed_of,
  stored_by,
  type_of,
}
use Rattle.values.specs.ColTypes.{IsType}
use Rattle.field_types.specs.TypeTree.{
  type_number,
  bool_number,
  date_unit_number,
  time_unit_number,
  zone_node,
  type_slots,
}
use Rattle.field_types.specs.TypeLaw.{TypeIsRead}

-- numbers that fit a slot

short-read : (n : ℕ) (t : Table) (k : ℕ) (d : ℤ) → n < 2 ^ 15 → NodeHeld t.bytes (slot_of t k) (number 2 n)
    → short_of t k d ≡ Ok (pos n)
unfolding short_of
short-read n t k d small h = rw (signed-read w16 n t k h, to_z_pos w16 n small) refl

i32-read : (n : ℕ) (t : Table) (k : ℕ) (d : ℤ) → n < 2 ^ 31 → NodeHeld t.bytes (slot_of t k) (number 4 n)
    → i32_of t k d ≡ Ok (pos n)
unfolding i32_of
i32-read n t k d small h = rw (signed-read w32 n t k h, to_z_pos w32 n small) refl

bool-read : (b : Bool) (t : Table) (k : ℕ) → NodeHeld t.bytes (slot_of t k) (number 1 (bool_number b))
    → bool_of t k ≡ Ok b
unfolding bool_of
bool-read false t k h = rw (number-read 1 0 t k h) refl
bool-read true t k h = rw (number-read 1 1 t k h) refl

ranged-is : (low high n : ℕ) → low ≤ n → n ≤ high → ranged (pos low) (pos high) (pos n) ≡ Ok n
ranged-is low high n above below = rw (le-leb low n above, le-leb n high below) refl

-- parameters

width-read : (w : IntWidth) (t : Table) → NodeHeld t.bytes (slot_of t fbs.bit_width) (number 4 (8 * bytes_in w))
    → width_of t ≡ Ok w
unfolding width_of
width-read int.Bits8 t h = rw (i32-read 8 t fbs.bit_width (pos 0) (omega arith) h) refl
width-read int.Bits16 t h = rw (i32-read 16 t fbs.bit_width (pos 0) (omega arith) h) refl
width-read int.Bits32 t h = rw (i32-read 32 t fbs.bit_width (pos 0) (omega arith) h) refl
width-read int.Bits64 t h = rw (i32-read 64 t fbs.bit_width (pos 0) (omega arith) h) refl

date-read : (u : DateUnit) (t : Table) → NodeHeld t.bytes (slot_of t fbs.unit) (number 2 (date_unit_number u))
    → date_of t ≡ Ok (stored.Date u)
unfolding date_of
date-read date.Day t h = rw (short-read 0 t fbs.unit (pos 1) (omega arith) h) refl
date-read date.Millisecond t h = rw (short-read 1 t fbs.unit (pos 1) (omega arith) h) refl

unit-read : (u : TimeUnit) (t : Table) (d : ℤ) → NodeHeld t.bytes (slot_of t fbs.unit) (number 2 (time_unit_number u))
    → time_unit_of t d ≡ Ok u
unfolding time_unit_of
unit-read time.Second t d h = rw (short-read 0 t fbs.unit d (omega arith) h) refl
unit-read time.Millisecond t d h = rw (short-read 1 t fbs.unit d (omega arith) h) refl
unit-read time.Microsecond t d h = rw (short-read 2 t fbs.unit d (omega arith) h) refl
unit-read time.Nanosecond t d h = rw (short-read 3 t fbs.unit d (omega arith) h) refl

text-absent : (t : Table) (k : ℕ) → slot_of t k ≡ Some None → structs_of 1 t k ≡ Some None
unfolding structs_of
text-absent t k h = rw h refl

zone-read : (z : List ℕ) (t : Table) → length z ≤ max_name_len → is_utf8 z ≡ true
    → NodeHeld t.bytes (slot_of t fbs.timezone) (zone_node z) → zone_of t ≡ Ok z
unfolding zone_of
zone-read [] t short utf8 h = rw (text-absent t fbs.timezone h) refl
zone-read (b ∷ bs) t short utf8 h =
    rw (text-read (b ∷ bs) t fbs.timezone h, le-leb (length (b ∷ bs)) max_name_len short, utf8) refl

-- types

int-read : (w : IntWidth) (s : Bool) (t : Table) → Held t.bytes (slot_of t) 0 (type_slots (stored.Int w s))
    → int_of t ≡ Ok (stored.Int w s)
unfolding int_of
int-read w s t h = rw (width-read w t h.0, bool-read s t fbs.is_signed h.1.0) refl

decimal-read : (p s : ℕ) (t : Table) → IsType (stored.Decimal p s)
    → Held t.bytes (slot_of t) 0 (type_slots (stored.Decimal p s))
    → decimal_of t ≡ Ok (stored.Decimal p s)
unfolding decimal_of digits_of precision_of wide_of
decimal-read p s t fit h =
    let some = fit.0 in
    let most = fit.1 in
    let within = fit.2 in
    let precise = i32-read p t fbs.precision (pos 0) (omega (arith, most)) h.0 in
    let scaled = i32-read s t fbs.scale (pos 0) (omega (arith, most, within)) h.1.0 in
    let wide = i32-read 128 t fbs.decimal_bits (pos 128) (omega arith) h.1.1.0 in
    rw (precise, ranged-is 1 max_precision p some most, scaled, ranged-is 0 p s (omega arith) within, wide) refl

time-read : (u : TimeUnit) (t : Table) → Held t.bytes (slot_of t) 0 (type_slots (stored.Time u))
    → time_of t ≡ Ok (stored.Time u)
unfolding time_of
time-read time.Second t h =
    rw (unit-read time.Second t (pos 1) h.0, i32-read 32 t fbs.time_bits (pos 32) (omega arith) h.1.0) refl
time-read time.Millisecond t h =
    rw (unit-read time.Millisecond t (pos 1) h.0, i32-read 32 t fbs.time_bits (pos 32) (omega arith) h.1.0) refl
time-read time.Microsecond t h =
    rw (unit-read time.Microsecond t (pos 1) h.0, i32-read 64 t fbs.time_bits (pos 32) (omega arith) h.1.0) refl
time-read time.Nanosecond t h =
    rw (unit-read time.Nanosecond t (pos 1) h.0, i32-read 64 t fbs.time_bits (pos 32) (omega arith) h.1.0) refl

timestamp-read : (u : TimeUnit) (z : List ℕ) (t : Table) → IsType (stored.Timestamp u z)
    → Held t.bytes (slot_of t) 0 (type_slots (stored.Timestamp u z))
    → timestamp_of t ≡ Ok (stored.Timestamp u z)
unfolding timestamp_of
timestamp-read u z t fit h = rw (unit-read u t (pos 0) h.0, zone-read z t fit.0 fit.1 h.1.0) refl

duration-read : (u : TimeUnit) (t : Table) → Held t.bytes (slot_of t) 0 (type_slots (stored.Duration u))
    → duration_of t ≡ Ok (stored.Duration u)
unfolding duration_of
duration-read u t h = rw (unit-read u t (pos 1) h.0) refl

fixed-read : (w : ℕ) (t : Table) → w ≤ max_fixed_width
    → Held t.bytes (slot_of t) 0 (type_slots (stored.FixedSizeBinary w)) → fixed_of t ≡ Ok (stored.FixedSizeBinary w)
unfolding fixed_of
fixed-read w t small h =
    rw (
      i32-read w t fbs.byte_width (pos 0) (omega (arith, small)) h.0,
      ranged-is 0 max_fixed_width w (omega arith) small,
    ) refl

-- the type table of a field

stored-read : (s : ColType) (t : Table) → IsType s → Held t.bytes (slot_of t) 0 (type_slots s)
    → stored_by (kind_of_type s) t ≡ Ok s
stored-read stored.Bool t fit h = refl
stored-read (stored.Int w s) t fit h = int-read w s t h
stored-read (stored.Decimal p s) t fit h = decimal-read p s t fit h
stored-read (stored.Date u) t fit h = date-read u t h.0
stored-read (stored.Time u) t fit h = time-read u t h
stored-read (stored.Timestamp u z) t fit h = timestamp-read u z t fit h
stored-read (stored.Duration u) t fit h = duration-read u t h
stored-read (stored.Utf8 o) t fit h = refl
stored-read (stored.Binary o) t fit h = refl
stored-read (stored.FixedSizeBinary w) t fit h = fixed-read w t fit h
stored-read (stored.List o) t fit h = refl
stored-read stored.Struct t fit h = refl

type-read : (s : ColType) (t : Table) → IsType s → NodeHeld t.bytes (slot_of t fbs.type_table) (table (type_slots s))
    → type_of (kind_of_type s) t ≡ Ok s
unfolding type_of
type-read s t fit h =
    let r = subtable-read (type_slots s) t fbs.type_table h in
    rw (r.is, stored-read s (table_in t.bytes r.place) fit r.slots) refl

kind-back : (s : ColType) → kind_numbered (type_number s) ≡ Ok (kind_of_type s)
unfolding kind_numbered
kind-back stored.Bool = refl
kind-back (stored.Int w s) = refl
kind-back (stored.Decimal p s) = refl
kind-back (stored.Date u) = refl
kind-back (stored.Time u) = refl
kind-back (stored.Timestamp u z) = refl
kind-back (stored.Duration u) = refl
kind-back (stored.Utf8 offset.Bits32) = refl
kind-back (stored.Utf8 offset.Bits64) = refl
kind-back (stored.Binary offset.Bits32) = refl
kind-back (stored.Binary offset.Bits64) = refl
kind-back (stored.FixedSizeBinary w) = refl
kind-back (stored.List offset.Bits32) = refl
kind-back (stored.List offset.Bits64) = refl
kind-back stored.Struct = refl

kind-read : (s : ColType) (t : Table) → NodeHeld t.bytes (slot_of t fbs.type_kind) (number 1 (type_number s))
    → kind_of t ≡ Ok (kind_of_type s)
unfolding kind_of
kind-read s t h = rw (number-read 1 (type_number s) t fbs.type_kind h) (kind-back s)

pub type-is-read : TypeIsRead
type-is-read s fit t kind_held type_held = (kind-read s t kind_held, type-read s t fit type_held)
