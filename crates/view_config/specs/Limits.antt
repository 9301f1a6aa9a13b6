-- The limits of columns: of their names, of how many fields they have at all levels, and of their null weights.
use Rattle.std.specs.Prelude.{◌≡◌, ℕ, ◌+◌, ◌<◌, ◌^◌, nat_le, nat_lt, not, ◌&&◌, Bool, true, false, MatchOption, Option}
use Rattle.std.specs.Prelude.{Ok, Err, List, length, if◌then◌else◌, map}
use Rattle.values.specs.Limits.{max_fields, max_null_weight}
use Rattle.values.specs.Layouts.{null_weight, null_weights}
use Rattle.values.specs.Logical.{NamedType, trees_of}
use Rattle.values.specs.Reading.{◌>>=◌, one, refused_if}
use Rattle.values.specs.Rose.{Rose, node, Roses, none, more, kids_of, roses_size}
use Rattle.values.specs.declared.layout.Layout.{Layout}
use Rattle.view_lang.specs.Limits.{max_column_name_len}
use Rattle.view_config.specs.Columns.{name_of}
use Rattle.view_config.specs.Reading.{Reading}
use Rattle.view_config.specs.Tree.{repeats}
use Rattle.view_config.specs.declared.faults.ConfigFault.TheVariants as fault

-- bytes of a time zone, and of the name of a side table, a feed or a view
abbrev pub max_zone_len : ℕ
max_zone_len = 255

abbrev pub max_entry_name_len : ℕ
max_entry_name_len = 64

-- filters of which a filter consists, and levels of them
abbrev pub max_filter_parts : ℕ
max_filter_parts = 256

abbrev pub max_filter_depth : ℕ
max_filter_depth = 16

-- the greatest `first` of a view
abbrev pub max_first : ℕ
max_first = 2 ^ 24

-- Names of columns, of outputs and of the children of structs have 1 to 255 bytes.
abbrev pub column_name : List ℕ → Reading (List ℕ)
column_name name =
    if nat_le 1 (length name) && nat_le (length name) max_column_name_len then Ok name else Err (one fault.OverLimit)

-- no two of these names are the same
abbrev pub distinct : List (List ℕ) → Reading (Unit {0})
distinct names = refused_if fault.DuplicateColumn (repeats names)

-- at most 1,024 fields at all levels
abbrev pub few_fields : List (Rose NamedType) → Reading (Unit {0})
few_fields cs = refused_if fault.OverLimit (nat_lt max_fields (roses_size (kids_of cs)))

-- A null weighs at most 2^20, at each level.
abbrev mutual
  pub null_weight_fits : Rose Layout → Bool
  null_weight_fits (node l kids) = nat_le (null_weight (node l kids)) max_null_weight && null_weights_fit kids

  pub null_weights_fit : Roses Layout → Bool
  null_weights_fit none = true
  null_weights_fit (more t ts) = null_weight_fits t && null_weights_fit ts

-- the limits of a table's columns
unfoldable pub column_limits : List (Rose NamedType) → Reading (Unit {0})
column_limits cs = do
  _ ← few_fields cs
  _ ← refused_if fault.OverLimit (not (null_weights_fit (trees_of (kids_of cs))))
  distinct (map name_of cs)

-- the fields of columns, at all levels
abbrev pub size_of : List (Rose NamedType) → ℕ
size_of fields = roses_size (kids_of fields)

-- the rest of a room for things after n of them; none where they are more
abbrev pub IsRoomAfter : ℕ → ℕ → Option ℕ → Type 0
IsRoomAfter room n left = MatchOption left (room < n) (λ m. m + n ≡ room)

-- the null weight of a layout, and those of layouts summed; none where one at some level is above the limit
abbrev pub IsSlotOf : Option ℕ → Rose Layout → Type 0
IsSlotOf o t = MatchOption o (null_weight_fits t ≡ false) (λ n. (null_weight_fits t ≡ true) × (n ≡ null_weight t))

abbrev pub AreSlotsOf : Option ℕ → Roses Layout → Type 0
AreSlotsOf o ts =
    MatchOption o (null_weights_fit ts ≡ false) (λ n. (null_weights_fit ts ≡ true) × (n ≡ null_weights ts))
