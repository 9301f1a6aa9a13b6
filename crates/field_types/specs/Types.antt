-- Apache Arrow Schema.fbs, the tables of union Type: the type that a field is stored in. Its parameters are read each
-- by itself.
use Rattle.std.specs.Prelude.{
  ℕ,
  ℤ,
  pos,
  nat_abs,
  Bool,
  ◌&&◌,
  Option,
  None,
  Some,
  Ok,
  Err,
  List,
  [],
  length,
  nat_le,
  int_le,
  if◌then◌else◌,
}
use Rattle.std.specs.Ordering.{int_eq}
use Rattle.std.specs.Str.{is_utf8}
use Rattle.flatbuf.specs.Layout.{Table, text_of, subtable_of}
use Rattle.values.specs.Limits.{max_name_len, max_precision, max_fixed_width}
use Rattle.values.specs.Reading.{Reading, ◌>>=◌, both, first, mapped, must, one}
use Rattle.values.specs.declared.faults.StreamFault.TheVariants as fault
use Rattle.values.specs.declared.layout.IntWidth.{IntWidth}
use Rattle.values.specs.declared.layout.IntWidth.TheVariants as int
use Rattle.values.specs.declared.units.DateUnit.{DateUnit}
use Rattle.values.specs.declared.units.DateUnit.TheVariants as date
use Rattle.values.specs.declared.units.TimeUnit.{TimeUnit}
use Rattle.values.specs.declared.units.TimeUnit.TheVariants as time
use Rattle.field_types.specs.declared.index.IndexType.{IndexType}
use Rattle.field_types.specs.declared.kinds.TypeKind.{TypeKind}
use Rattle.field_types.specs.declared.kinds.TypeKind.TheVariants as kind
use Rattle.values.specs.declared.col_type.ColType.{ColType}
use Rattle.values.specs.declared.col_type.ColType.TheVariants as stored
use Rattle.values.specs.ColTypes.{bits_of_time}
use Rattle.field_types.specs.SchemaFbs as fbs
use Rattle.field_types.specs.Reads.{readable, checked, needs, bool_of, short_of, i32_of}

-- a number between bounds that are no negative numbers
abbrev pub ranged : ℤ → ℤ → ℤ → Reading ℕ
ranged low high n = checked fault.BadType (int_le low n && int_le n high) (nat_abs n)

-- table Int: whole numbers of 8, 16, 32 or 64 bits, with a sign or without
abbrev pub width_numbered : ℤ → Reading IntWidth
width_numbered n =
    if int_eq n (pos 8) then Ok int.Bits8 else if int_eq n (pos 16) then Ok int.Bits16 else if int_eq n (pos 32)
    then Ok int.Bits32
    else if int_eq n (pos 64) then Ok int.Bits64 else Err (one fault.BadType)

unfoldable pub width_of : Table → Reading IntWidth
width_of t = i32_of t fbs.bit_width (pos 0) >>= width_numbered

abbrev pub int_type : IntWidth → Bool → ColType
int_type width signed = stored.Int width signed

unfoldable pub int_of : Table → Reading ColType
int_of t = both int_type (width_of t) (bool_of t fbs.is_signed)

-- the indices into a dictionary, which are whole numbers too
abbrev pub index_type : IntWidth → Bool → IndexType
index_type width signed = record { width = width; signed = signed }

unfoldable pub index_of : Table → Reading IndexType
index_of t = both index_type (width_of t) (bool_of t fbs.is_signed)

-- table Decimal: 1 to 38 digits, none or some or all of them after the point. Only decimals of 128 bits are supported.
unfoldable pub precision_of : Table → Reading ℕ
precision_of t = i32_of t fbs.precision (pos 0) >>= ranged (pos 1) (pos max_precision)

abbrev pub decimal_type : ℕ → ℤ → Reading ColType
decimal_type precision scale = mapped (stored.Decimal precision) (ranged (pos 0) (pos precision) scale)

unfoldable pub digits_of : Table → Reading ColType
digits_of t = both decimal_type (precision_of t) (i32_of t fbs.scale (pos 0)) >>= λ taken. taken

unfoldable pub wide_of : Table → Reading (Unit {0})
wide_of t = i32_of t fbs.decimal_bits (pos 128) >>= λ bits. needs fault.UnsupportedType (int_eq bits (pos 128))

unfoldable pub decimal_of : Table → Reading ColType
decimal_of t = both first (digits_of t) (wide_of t)

-- table Date, enum DateUnit: milliseconds where no unit is given
abbrev pub date_unit_numbered : ℤ → Reading DateUnit
date_unit_numbered n =
    if int_eq n (pos 0) then Ok date.Day else if int_eq n (pos 1) then Ok date.Millisecond else Err (one fault.BadType)

abbrev pub date_type : DateUnit → ColType
date_type unit = stored.Date unit

unfoldable pub date_of : Table → Reading ColType
date_of t = mapped date_type (short_of t fbs.unit (pos 1) >>= date_unit_numbered)

-- enum TimeUnit
abbrev pub time_unit_numbered : ℤ → Reading TimeUnit
time_unit_numbered n =
    if int_eq n (pos 0) then Ok time.Second else if int_eq n (pos 1) then Ok time.Millisecond
    else if int_eq n (pos 2) then Ok time.Microsecond else if int_eq n (pos 3) then Ok time.Nanosecond
    else Err (one fault.BadType)

unfoldable pub time_unit_of : Table → ℤ → Reading TimeUnit
time_unit_of t d = short_of t fbs.unit d >>= time_unit_numbered

-- table Time: milliseconds of 32 bits where nothing else is given
abbrev pub time_type : TimeUnit → ℤ → Reading ColType
time_type unit bits = checked fault.BadType (int_eq bits (pos (bits_of_time unit))) (stored.Time unit)

unfoldable pub time_of : Table → Reading ColType
time_of t = both time_type (time_unit_of t (pos 1)) (i32_of t fbs.time_bits (pos 32)) >>= λ taken. taken

-- table Timestamp: seconds where no unit is given. A time zone is UTF-8 of at most 4,096 bytes; an absent one is empty.
abbrev pub checked_zone : List ℕ → Reading (List ℕ)
checked_zone bytes = checked fault.BadType (nat_le (length bytes) max_name_len && is_utf8 bytes) bytes

abbrev pub zone_in : Option (List ℕ) → Reading (List ℕ)
zone_in None = Ok []
zone_in (Some bytes) = checked_zone bytes

unfoldable pub zone_of : Table → Reading (List ℕ)
zone_of t = readable (text_of t fbs.timezone) >>= zone_in

abbrev pub timestamp_type : TimeUnit → List ℕ → ColType
timestamp_type unit zone = stored.Timestamp unit zone

unfoldable pub timestamp_of : Table → Reading ColType
timestamp_of t = both timestamp_type (time_unit_of t (pos 0)) (zone_of t)

-- table Duration: milliseconds where no unit is given
abbrev pub duration_type : TimeUnit → ColType
duration_type unit = stored.Duration unit

unfoldable pub duration_of : Table → Reading ColType
duration_of t = mapped duration_type (time_unit_of t (pos 1))

-- table FixedSizeBinary: at most 65,536 bytes
abbrev pub fixed_type : ℕ → ColType
fixed_type width = stored.FixedSizeBinary width

unfoldable pub fixed_of : Table → Reading ColType
fixed_of t = mapped fixed_type (i32_of t fbs.byte_width (pos 0) >>= ranged (pos 0) (pos max_fixed_width))

-- the type that a type table of this kind means. The other tables have no slots.
abbrev pub stored_by : TypeKind → Table → Reading ColType
stored_by kind.Bool t = Ok stored.Bool
stored_by kind.Int t = int_of t
stored_by kind.Decimal t = decimal_of t
stored_by kind.Date t = date_of t
stored_by kind.Time t = time_of t
stored_by kind.Timestamp t = timestamp_of t
stored_by kind.Duration t = duration_of t
stored_by (kind.Utf8 o) t = Ok (stored.Utf8 o)
stored_by (kind.Binary o) t = Ok (stored.Binary o)
stored_by kind.FixedSizeBinary t = fixed_of t
stored_by (kind.List o) t = Ok (stored.List o)
stored_by kind.Struct t = Ok stored.Struct

-- A type table must be there and readable, also one without slots.
unfoldable pub type_of : TypeKind → Table → Reading ColType
type_of k t = readable (subtable_of t fbs.type_table) >>= must fault.BadType >>= stored_by k
