-- Types as text: the name of a type with its parameters. Lists and structs have their names alone.
use Rattle.std.specs.Prelude.{ℕ, ◌*◌, Bool, true, false, List, [], ◌∷◌, ◌++◌, codes}
use Rattle.std.specs.Fmt.{decimal}
use Rattle.values.specs.Layouts.{bytes_in}
use Rattle.values.specs.declared.layout.OffsetWidth.{OffsetWidth}
use Rattle.values.specs.declared.layout.OffsetWidth.TheVariants as offset
use Rattle.values.specs.declared.units.DateUnit.{DateUnit}
use Rattle.values.specs.declared.units.DateUnit.TheVariants as date
use Rattle.values.specs.declared.units.TimeUnit.{TimeUnit}
use Rattle.values.specs.declared.units.TimeUnit.TheVariants as time
use Rattle.values.specs.declared.col_type.ColType.{ColType}
use Rattle.values.specs.declared.col_type.ColType.TheVariants as col
use Rattle.values.specs.ColTypes.{bits_of_time}

abbrev pub unit_text : TimeUnit → List ℕ
unit_text time.Second = codes "s"
unit_text time.Millisecond = codes "ms"
unit_text time.Microsecond = codes "us"
unit_text time.Nanosecond = codes "ns"

abbrev pub size_text : OffsetWidth → List ℕ
size_text offset.Bits32 = []
size_text offset.Bits64 = codes "large_"

abbrev pub sign_text : Bool → List ℕ
sign_text true = []
sign_text false = codes "u"

abbrev pub date_text : DateUnit → List ℕ
date_text date.Day = codes "date32"
date_text date.Millisecond = codes "date64"

-- a zone comes after the unit
abbrev pub comma_text : List ℕ → List ℕ
comma_text [] = []
comma_text (b ∷ bs) = codes ", "

abbrev pub type_text : ColType → List ℕ
type_text col.Bool = codes "bool"
type_text (col.Int w s) = sign_text s ++ (codes "int" ++ decimal (8 * bytes_in w))
type_text (col.Decimal p s) = codes "decimal[" ++ (decimal p ++ (codes ", " ++ (decimal s ++ codes "]")))
type_text (col.Date u) = date_text u
type_text (col.Time u) = codes "time" ++ (decimal (bits_of_time u) ++ (codes "[" ++ (unit_text u ++ codes "]")))
type_text (col.Timestamp u z) = codes "timestamp[" ++ (unit_text u ++ (comma_text z ++ (z ++ codes "]")))
type_text (col.Duration u) = codes "duration[" ++ (unit_text u ++ codes "]")
type_text (col.Utf8 o) = size_text o ++ codes "utf8"
type_text (col.Binary o) = size_text o ++ codes "binary"
type_text (col.FixedSizeBinary w) = codes "fixed[" ++ (decimal w ++ codes "]")
type_text (col.List o) = size_text o ++ codes "list"
type_text col.Struct = codes "struct"
