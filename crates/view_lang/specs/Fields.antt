-- Fields by their numbers.
use Rattle.std.specs.Prelude.{ℕ, ◌<◌, List, [], get_or, length}
use Rattle.values.specs.declared.col_type.ColType.{ColType}
use Rattle.values.specs.declared.col_type.ColType.TheVariants as col
use Rattle.values.specs.ColTypes.{IsSingle}
use Rattle.values.specs.Logical.{NamedType}
use Rattle.values.specs.Rose.{Rose, node, none}
use Rattle.view_lang.specs.TableRules.{type_of}

abbrev pub renamed : List ℕ → Rose NamedType → Rose NamedType
renamed name (node f kids) = node (record { name = name; col_type = f.col_type }) kids

-- the result where there is no column of a number
abbrev pub no_field : Rose NamedType
no_field = node (record { name = []; col_type = col.Bool }) none

abbrev pub field_at : List (Rose NamedType) → ℕ → Rose NamedType
field_at fields n = get_or fields n no_field

abbrev pub simple_field : List ℕ → ColType → Rose NamedType
simple_field name t = node (record { name = name; col_type = t }) none

-- a column that exists
abbrev pub IsColumn : List (Rose NamedType) → ℕ → Type 0
IsColumn fields k = k < length fields

-- a column that exists, whose values have an order
abbrev pub IsOrdered : List (Rose NamedType) → ℕ → Type 0
IsOrdered fields k = IsColumn fields k × IsSingle (type_of (field_at fields k))
