-- The types of columns, as a configuration writes them: a word, or an array that begins with one.
use Rattle.std.specs.Prelude.{codes, ℕ, zero, suc, ℤ, pos, nat_abs, int_le, nat_le, ◌&&◌, true, false, Option, None}
use Rattle.std.specs.Prelude.{Some, Ok, Err, List, [], ◌∷◌, map, length, if◌then◌else◌}
use Rattle.std.specs.Str.{bytes_eq}
use Rattle.toml.specs.Data.{as_str, Data, string, integer, array, Items}
use Rattle.values.specs.Limits.{max_fixed_width, max_precision}
use Rattle.values.specs.Reading.{◌>>=◌, both, first, mapped, must, one}
use Rattle.values.specs.Rose.{Rose, node, none, kids_of}
use Rattle.values.specs.Logical.{NamedType, item_name}
use Rattle.values.specs.declared.layout.IntWidth.TheVariants as int
use Rattle.values.specs.declared.layout.OffsetWidth.TheVariants as offset
use Rattle.values.specs.declared.units.DateUnit.TheVariants as date
use Rattle.values.specs.declared.units.TimeUnit.{TimeUnit}
use Rattle.values.specs.declared.units.TimeUnit.TheVariants as time
use Rattle.values.specs.declared.col_type.ColType.{ColType}
use Rattle.values.specs.declared.col_type.ColType.TheVariants as col
use Rattle.view_config.specs.Columns.{name_of}
use Rattle.view_config.specs.Limits.{column_name, distinct, few_fields, max_zone_len}
use Rattle.view_config.specs.Reading.{Reading}
use Rattle.view_config.specs.Tree.{each_item, sole, pair, pair_in, headed}
use Rattle.view_config.specs.declared.faults.ConfigFault.TheVariants as fault

-- the value of a word in a table
abbrev pub look_up : {X : Type 0} → List ℕ → List (List ℕ × X) → Option X
look_up w [] = None
look_up w (p ∷ ps) = if bytes_eq w p.0 then Some p.1 else look_up w ps

-- the types that are one word
abbrev pub plain_types : List (List ℕ × ColType)
plain_types =
    (codes "bool", col.Bool) ∷ (codes "int8", col.Int int.Bits8 true) ∷
    (codes "int16", col.Int int.Bits16 true) ∷ (codes "int32", col.Int int.Bits32 true) ∷
    (codes "int64", col.Int int.Bits64 true) ∷ (codes "uint8", col.Int int.Bits8 false) ∷
    (codes "uint16", col.Int int.Bits16 false) ∷ (codes "uint32", col.Int int.Bits32 false) ∷
    (codes "uint64", col.Int int.Bits64 false) ∷ (codes "date32", col.Date date.Day) ∷
    (codes "date64", col.Date date.Millisecond) ∷ (codes "utf8", col.Utf8 offset.Bits32) ∷
    (codes "binary", col.Binary offset.Bits32) ∷ []

abbrev pub plain_type : List ℕ → Option ColType
plain_type w = look_up w plain_types

abbrev pub unit_of : List ℕ → Option TimeUnit
unit_of w =
    look_up w
    ((codes "s", time.Second) ∷ (codes "ms", time.Millisecond) ∷ (codes "us", time.Microsecond)
    ∷ (codes "ns", time.Nanosecond) ∷ [])

-- Parameters: a unit, a whole number between bounds, a time zone of 1 to 255 bytes.
abbrev pub unit_in : Data → Reading TimeUnit
unit_in (string w) = must fault.TypeText (unit_of w)
unit_in d = Err (one fault.TypeText)

abbrev pub between : ℕ → ℕ → ℤ → Reading ℕ
between low high n = if int_le (pos low) n && int_le n (pos high) then Ok (nat_abs n) else Err (one fault.TypeText)

abbrev pub number_in : ℕ → ℕ → Data → Reading ℕ
number_in low high (integer n) = between low high n
number_in low high d = Err (one fault.TypeText)

abbrev pub zone_in : Data → Reading (List ℕ)
zone_in (string z) = if nat_le 1 (length z) && nat_le (length z) max_zone_len then Ok z else Err (one fault.TypeText)
zone_in d = Err (one fault.TypeText)

-- ["decimal", p, s]
unfoldable pub decimal_of : Items → Reading ColType
decimal_of ds = do
  parts ← must fault.TypeText (pair ds)
  precision ← number_in 1 max_precision parts.0
  mapped (col.Decimal precision) (number_in 0 precision parts.1)

-- ["timestamp", u] and ["timestamp", u, zone]
abbrev pub timestamp : TimeUnit → List ℕ → ColType
timestamp unit zone = col.Timestamp unit zone

abbrev pub timestamp_in : Option Data → Option (Data × Data) → Reading ColType
timestamp_in (Some u) p = both timestamp (unit_in u) (Ok [])
timestamp_in None (Some p) = both timestamp (unit_in p.0) (zone_in p.1)
timestamp_in None None = Err (one fault.TypeText)

unfoldable pub timestamp_of : Items → Reading ColType
timestamp_of ds = timestamp_in (sole ds) (pair ds)

-- ["time", u], ["duration", u] and ["fixed", n]
abbrev pub time_of : Items → Reading ColType
time_of ds = must fault.TypeText (sole ds) >>= λ u. mapped col.Time (unit_in u)

abbrev pub duration_of : Items → Reading ColType
duration_of ds = must fault.TypeText (sole ds) >>= λ u. mapped col.Duration (unit_in u)

abbrev pub fixed_of : Items → Reading ColType
fixed_of ds = must fault.TypeText (sole ds) >>= λ n. mapped col.FixedSizeBinary (number_in 0 max_fixed_width n)

-- a type with no types inside it, which begins with this word
unfoldable pub simple_of : List ℕ → Items → Reading ColType
simple_of w ds =
    if bytes_eq w (codes "decimal") then decimal_of ds else if bytes_eq w (codes "time") then time_of ds
    else if bytes_eq w (codes "timestamp") then timestamp_of ds else if bytes_eq w (codes "duration") then duration_of
    ds
    else if bytes_eq w (codes "fixed") then fixed_of ds else Err (one fault.TypeText)

abbrev pub leaf : List ℕ → ColType → Rose NamedType
leaf name t = node (record { name = name; col_type = t }) none

abbrev pub nested : List ℕ → ColType → List (Rose NamedType) → Rose NamedType
nested name t kids = node (record { name = name; col_type = t }) (kids_of kids)

-- `below` reads a type, for a field of this name.

-- ["list", T]
unfoldable pub list_of : (List ℕ → Data → Reading (Rose NamedType)) → List ℕ → Items → Reading (Rose NamedType)
list_of below name ds = do
  d ← must fault.TypeText (sole ds)
  kid ← below item_name d
  Ok (nested name (col.List offset.Bits32) (kid ∷ []))

-- [name, T], a child of a struct; `below` reads T
unfoldable pub child_of : (List ℕ → Data → Reading (Rose NamedType)) → Data → Reading (Rose NamedType)
child_of below d = do
  parts ← must fault.TypeText (pair_in d)
  name ← must fault.TypeText (as_str parts.0)
  both first (below name parts.1) (column_name name)

-- ["struct", [name, T], ...]
unfoldable pub struct_of : (List ℕ → Data → Reading (Rose NamedType)) → List ℕ → Items → Reading (Rose NamedType)
struct_of below name ds = do
  kids ← each_item (child_of below) ds
  _ ← few_fields kids
  _ ← distinct (map name_of kids)
  Ok (nested name col.Struct kids)

unfoldable pub array_of : (List ℕ → Data → Reading (Rose NamedType)) → List ℕ → List ℕ → Items
    → Reading (Rose NamedType)
array_of below name w ds =
    if bytes_eq w (codes "list") then list_of below name ds
    else if bytes_eq w (codes "struct") then struct_of below name ds
    else mapped (leaf name) (simple_of w ds)

unfoldable pub type_by : (List ℕ → Data → Reading (Rose NamedType)) → List ℕ → Data → Reading (Rose NamedType)
type_by below name (string w) = mapped (leaf name) (must fault.TypeText (plain_type w))
type_by below name (array ds) = must fault.TypeText (headed ds) >>= λ p. array_of below name p.0 p.1
type_by below name d = Err (one fault.TypeText)

-- A field of this name and this type, nested to at most this many levels. What lies deeper isn't read.
unfoldable pub field_of : ℕ → List ℕ → Data → Reading (Rose NamedType)
field_of zero name d = Err (one fault.OverLimit)
field_of (suc depth) name d = type_by (field_of depth) name d
