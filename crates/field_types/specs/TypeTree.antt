-- Apache Arrow Schema.fbs, union Type and its tables, as they are written: each slot of a type's table, also where it
-- holds the default. There is a time zone only where the type has one.
use Rattle.std.specs.Prelude.{ℕ, ◌*◌, Bool, true, false, List, [], ◌∷◌}
use Rattle.flatbuf.specs.Tree.{Node, absent, number, text, Nodes, no_nodes, nodes_of}
use Rattle.values.specs.Layouts.{bytes_in}
use Rattle.values.specs.declared.layout.OffsetWidth.{OffsetWidth}
use Rattle.values.specs.declared.layout.OffsetWidth.TheVariants as offset
use Rattle.values.specs.declared.units.DateUnit.{DateUnit}
use Rattle.values.specs.declared.units.DateUnit.TheVariants as date
use Rattle.values.specs.declared.units.TimeUnit.{TimeUnit}
use Rattle.values.specs.declared.units.TimeUnit.TheVariants as time
use Rattle.values.specs.declared.col_type.ColType.{ColType}
use Rattle.values.specs.declared.col_type.ColType.TheVariants as stored
use Rattle.values.specs.ColTypes.{bits_of_time}
use Rattle.field_types.specs.SchemaFbs as fbs

-- the number of a type, and that of its large form
abbrev pub by_offsets : OffsetWidth → ℕ → ℕ → ℕ
by_offsets offset.Bits32 small large = small
by_offsets offset.Bits64 small large = large

-- union Type
abbrev pub type_number : ColType → ℕ
type_number stored.Bool = fbs.type_bool
type_number (stored.Int w s) = fbs.type_int
type_number (stored.Decimal p s) = fbs.type_decimal
type_number (stored.Date u) = fbs.type_date
type_number (stored.Time u) = fbs.type_time
type_number (stored.Timestamp u z) = fbs.type_timestamp
type_number (stored.Duration u) = fbs.type_duration
type_number (stored.Utf8 o) = by_offsets o fbs.type_utf8 fbs.type_large_utf8
type_number (stored.Binary o) = by_offsets o fbs.type_binary fbs.type_large_binary
type_number (stored.FixedSizeBinary w) = fbs.type_fixed_size_binary
type_number (stored.List o) = by_offsets o fbs.type_list fbs.type_large_list
type_number stored.Struct = fbs.type_struct

abbrev pub bool_number : Bool → ℕ
bool_number false = 0
bool_number true = 1

-- enum DateUnit
abbrev pub date_unit_number : DateUnit → ℕ
date_unit_number date.Day = 0
date_unit_number date.Millisecond = 1

-- enum TimeUnit
abbrev pub time_unit_number : TimeUnit → ℕ
time_unit_number time.Second = 0
time_unit_number time.Millisecond = 1
time_unit_number time.Microsecond = 2
time_unit_number time.Nanosecond = 3

abbrev pub zone_node : List ℕ → Node
zone_node [] = absent
zone_node (b ∷ bs) = text (b ∷ bs)

-- the slots of a type's table
abbrev pub type_slots : ColType → Nodes
type_slots stored.Bool = no_nodes
type_slots (stored.Int w s) = nodes_of (number 4 (8 * bytes_in w) ∷ number 1 (bool_number s) ∷ [])
type_slots (stored.Decimal p s) = nodes_of (number 4 p ∷ number 4 s ∷ number 4 128 ∷ [])
type_slots (stored.Date u) = nodes_of (number 2 (date_unit_number u) ∷ [])
type_slots (stored.Time u) = nodes_of (number 2 (time_unit_number u) ∷ number 4 (bits_of_time u) ∷ [])
type_slots (stored.Timestamp u z) = nodes_of (number 2 (time_unit_number u) ∷ zone_node z ∷ [])
type_slots (stored.Duration u) = nodes_of (number 2 (time_unit_number u) ∷ [])
type_slots (stored.Utf8 o) = no_nodes
type_slots (stored.Binary o) = no_nodes
type_slots (stored.FixedSizeBinary w) = nodes_of (number 4 w ∷ [])
type_slots (stored.List o) = no_nodes
type_slots stored.Struct = no_nodes
