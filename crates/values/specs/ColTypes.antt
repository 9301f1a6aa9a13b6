-- The types of columns: their bounds, and their layouts.
use Rattle.std.specs.Prelude.{◌≡◌, ℕ, ◌*◌, ◌≤◌, true, length}
use Rattle.std.specs.Str.{is_utf8}
use Rattle.values.specs.Limits.{max_name_len, max_precision, max_fixed_width}
use Rattle.values.specs.Layouts.{bytes_in}
use Rattle.values.specs.declared.layout.IntWidth.{IntWidth}
use Rattle.values.specs.declared.layout.IntWidth.TheVariants as int
use Rattle.values.specs.declared.layout.Layout.{Layout}
use Rattle.values.specs.declared.layout.Layout.TheVariants as layout
use Rattle.values.specs.declared.units.DateUnit.{DateUnit}
use Rattle.values.specs.declared.units.DateUnit.TheVariants as date
use Rattle.values.specs.declared.units.TimeUnit.{TimeUnit}
use Rattle.values.specs.declared.units.TimeUnit.TheVariants as time
use Rattle.values.specs.declared.col_type.ColType.{ColType}
use Rattle.values.specs.declared.col_type.ColType.TheVariants as col

-- a type whose parameters are within their bounds
abbrev pub IsType : ColType → Type 0
IsType col.Bool = Unit {0}
IsType (col.Int w s) = Unit {0}
IsType (col.Decimal p s) = (1 ≤ p) × (p ≤ max_precision) × (s ≤ p)
IsType (col.Date u) = Unit {0}
IsType (col.Time u) = Unit {0}
IsType (col.Timestamp u z) = (length z ≤ max_name_len) × (is_utf8 z ≡ true)
IsType (col.Duration u) = Unit {0}
IsType (col.Utf8 o) = Unit {0}
IsType (col.Binary o) = Unit {0}
IsType (col.FixedSizeBinary w) = w ≤ max_fixed_width
IsType (col.List o) = Unit {0}
IsType col.Struct = Unit {0}

-- a type without children, which the values of a dictionary may have
abbrev pub IsSingle : ColType → Type 0
IsSingle (col.List o) = ⊥
IsSingle col.Struct = ⊥
IsSingle s = Unit {0}

-- enum DateUnit: days have 32 bits, milliseconds 64
abbrev pub width_of_date : DateUnit → IntWidth
width_of_date date.Day = int.Bits32
width_of_date date.Millisecond = int.Bits64

-- table Time: seconds and milliseconds have 32 bits, microseconds and nanoseconds 64
abbrev pub width_of_time : TimeUnit → IntWidth
width_of_time time.Second = int.Bits32
width_of_time time.Millisecond = int.Bits32
width_of_time time.Microsecond = int.Bits64
width_of_time time.Nanosecond = int.Bits64

abbrev pub bits_of_time : TimeUnit → ℕ
bits_of_time u = 8 * bytes_in (width_of_time u)

-- Arrow Columnar Format, "Data Types": the physical layout of each type. Dates, times, timestamps and durations are
-- signed numbers.
abbrev pub layout_of : ColType → Layout
layout_of col.Bool = layout.Bool
layout_of (col.Int w s) = layout.Int w s
layout_of (col.Decimal p s) = layout.Decimal p
layout_of (col.Date u) = layout.Int (width_of_date u) true
layout_of (col.Time u) = layout.Int (width_of_time u) true
layout_of (col.Timestamp u z) = layout.Int int.Bits64 true
layout_of (col.Duration u) = layout.Int int.Bits64 true
layout_of (col.Utf8 o) = layout.Utf8 o
layout_of (col.Binary o) = layout.Binary o
layout_of (col.FixedSizeBinary w) = layout.FixedSizeBinary w
layout_of (col.List o) = layout.List o
layout_of col.Struct = layout.Struct
