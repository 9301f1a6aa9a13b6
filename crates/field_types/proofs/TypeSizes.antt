-- The table of each type can be written, in few bytes.
use Rattle.std.proofs.Common.{ℕ, ◌+◌, ◌*◌, ◌≤◌, ◌<◌, Bool, true, false, List, [], ◌∷◌, arith}
use Rattle.flatbuf.specs.Tree.{number, table, Nodes}
use Rattle.flatbuf.specs.Written.{up, items_place, table_place, vtable_len, Fits}
use Rattle.values.specs.Limits.{max_fixed_width}
use Rattle.values.specs.Layouts.{bytes_in}
use Rattle.values.specs.declared.layout.IntWidth.{IntWidth}
use Rattle.values.specs.declared.layout.IntWidth.TheVariants as int
use Rattle.values.specs.declared.layout.OffsetWidth.TheVariants as offset
use Rattle.values.specs.declared.units.DateUnit.{DateUnit}
use Rattle.values.specs.declared.units.DateUnit.TheVariants as date
use Rattle.values.specs.declared.units.TimeUnit.{TimeUnit}
use Rattle.values.specs.declared.units.TimeUnit.TheVariants as time
use Rattle.values.specs.declared.col_type.ColType.{ColType}
use Rattle.values.specs.declared.col_type.ColType.TheVariants as stored
use Rattle.values.specs.ColTypes.{bits_of_time, IsType}
use Rattle.field_types.specs.TypeTree.{
  type_number,
  bool_number,
  date_unit_number,
  time_unit_number,
  zone_node,
  type_slots,
}
use Rattle.field_types.specs.TypeLaw.{TypeFits, TypeIsShort}

up8-le : (n : ℕ) → up 8 n ≤ n + 7
up8-le n = omega arith

items_place-le : (n : ℕ) → items_place n ≤ n + 11
items_place-le n = omega arith

table_place-le : (at : ℕ) (s : Nodes) → table_place at s ≤ at + 14 + vtable_len s
table_place-le at s =
    let vtable : ℕ = up 8 at in
    let first : vtable ≤ at + 7 = up8-le at in
    let second : up 8 (vtable + vtable_len s) ≤ vtable + vtable_len s + 7 = up8-le (vtable + vtable_len s) in
    omega (arith, first, second)

-- numbers

type_number-small : (s : ColType) → type_number s < 256
type_number-small stored.Bool = omega arith
type_number-small (stored.Int w s) = omega arith
type_number-small (stored.Decimal p s) = omega arith
type_number-small (stored.Date u) = omega arith
type_number-small (stored.Time u) = omega arith
type_number-small (stored.Timestamp u z) = omega arith
type_number-small (stored.Duration u) = omega arith
type_number-small (stored.Utf8 offset.Bits32) = omega arith
type_number-small (stored.Utf8 offset.Bits64) = omega arith
type_number-small (stored.Binary offset.Bits32) = omega arith
type_number-small (stored.Binary offset.Bits64) = omega arith
type_number-small (stored.FixedSizeBinary w) = omega arith
type_number-small (stored.List offset.Bits32) = omega arith
type_number-small (stored.List offset.Bits64) = omega arith
type_number-small stored.Struct = omega arith

width-small : (w : IntWidth) → 8 * bytes_in w ≤ 64
width-small int.Bits8 = omega arith
width-small int.Bits16 = omega arith
width-small int.Bits32 = omega arith
width-small int.Bits64 = omega arith

bool-small : (b : Bool) → bool_number b ≤ 1
bool-small false = omega arith
bool-small true = omega arith

date-small : (u : DateUnit) → date_unit_number u ≤ 1
date-small date.Day = omega arith
date-small date.Millisecond = omega arith

unit-small : (u : TimeUnit) → time_unit_number u ≤ 3
unit-small time.Second = omega arith
unit-small time.Millisecond = omega arith
unit-small time.Microsecond = omega arith
unit-small time.Nanosecond = omega arith

bits-small : (u : TimeUnit) → bits_of_time u ≤ 64
bits-small time.Second = omega arith
bits-small time.Millisecond = omega arith
bits-small time.Microsecond = omega arith
bits-small time.Nanosecond = omega arith

byte-fits : (n : ℕ) → n ≤ 1 → Fits (number 1 n)
byte-fits n h = (omega arith, omega arith, omega (arith, h))

short-fits : (n : ℕ) → n ≤ 3 → Fits (number 2 n)
short-fits n h = (omega arith, omega arith, omega (arith, h))

i32-fits : (n : ℕ) → n ≤ max_fixed_width → Fits (number 4 n)
i32-fits n h = (omega arith, omega arith, omega (arith, h))

slots-fit : (s : ColType) → IsType s → Fits (table (type_slots s))
slots-fit stored.Bool fit = (omega arith, omega arith, tt)
slots-fit (stored.Int w s) fit =
    let small = width-small w in (
      omega arith,
      omega arith,
      (i32-fits (8 * bytes_in w) (omega (arith, small)), (byte-fits (bool_number s) (bool-small s), tt)),
    )
slots-fit (stored.Decimal p s) fit =
    let most = fit.1 in
    let within = fit.2 in (
      omega arith,
      omega arith,
      (i32-fits p (omega (arith, most)), (i32-fits s (omega (arith, most, within)), (i32-fits 128 (omega arith), tt))),
    )
slots-fit (stored.Date u) fit = let small = date-small u in
    (omega arith, omega arith, (short-fits (date_unit_number u) (omega (arith, small)), tt))
slots-fit (stored.Time u) fit =
    let small = bits-small u in (
      omega arith,
      omega arith,
      (short-fits (time_unit_number u) (unit-small u), (i32-fits (bits_of_time u) (omega (arith, small)), tt)),
    )
slots-fit (stored.Timestamp u []) fit =
    (omega arith, omega arith, (short-fits (time_unit_number u) (unit-small u), (tt, tt)))
slots-fit (stored.Timestamp u (b ∷ bs)) fit =
    (omega arith, omega arith, (short-fits (time_unit_number u) (unit-small u), (tt, tt)))
slots-fit (stored.Duration u) fit = (omega arith, omega arith, (short-fits (time_unit_number u) (unit-small u), tt))
slots-fit (stored.Utf8 o) fit = (omega arith, omega arith, tt)
slots-fit (stored.Binary o) fit = (omega arith, omega arith, tt)
slots-fit (stored.FixedSizeBinary w) fit = (omega arith, omega arith, (i32-fits w fit, tt))
slots-fit (stored.List o) fit = (omega arith, omega arith, tt)
slots-fit stored.Struct fit = (omega arith, omega arith, tt)

pub type-fits : TypeFits
type-fits s fit = (type_number-small s, slots-fit s fit)

pub type-is-short : TypeIsShort
type-is-short stored.Bool fit at = let place = table_place-le at (type_slots stored.Bool) in omega (arith, place)
type-is-short (stored.Int w s) fit at = let place = table_place-le at (type_slots (stored.Int w s)) in
    omega (arith, place)
type-is-short (stored.Decimal p s) fit at = let place = table_place-le at (type_slots (stored.Decimal p s)) in
    omega (arith, place)
type-is-short (stored.Date u) fit at = let place = table_place-le at (type_slots (stored.Date u)) in
    omega (arith, place)
type-is-short (stored.Time u) fit at = let place = table_place-le at (type_slots (stored.Time u)) in
    omega (arith, place)
type-is-short (stored.Timestamp u []) fit at = let place = table_place-le at (type_slots (stored.Timestamp u [])) in
    omega (arith, place)
type-is-short (stored.Timestamp u (b ∷ bs)) fit at =
    let short = fit.0 in
    let place = table_place-le at (type_slots (stored.Timestamp u (b ∷ bs))) in
    let name = items_place-le (table_place at (type_slots (stored.Timestamp u (b ∷ bs))) + 12) in
    omega (arith, place, short, name)
type-is-short (stored.Duration u) fit at = let place = table_place-le at (type_slots (stored.Duration u)) in
    omega (arith, place)
type-is-short (stored.Utf8 o) fit at = let place = table_place-le at (type_slots (stored.Utf8 o)) in
    omega (arith, place)
type-is-short (stored.Binary o) fit at = let place = table_place-le at (type_slots (stored.Binary o)) in
    omega (arith, place)
type-is-short (stored.FixedSizeBinary w) fit at = let place =
    table_place-le at (type_slots (stored.FixedSizeBinary w)) in omega (arith, place)
type-is-short (stored.List o) fit at = let place = table_place-le at (type_slots (stored.List o)) in
    omega (arith, place)
type-is-short stored.Struct fit at = let place = table_place-le at (type_slots stored.Struct) in omega (arith, place)
