-- Columns, by their names.
use Rattle.std.specs.Prelude.{ℕ, ◌+◌, Bool, true, false, Option, None, Some, Ok, Err, List, [], ◌∷◌, if◌then◌else◌}
use Rattle.std.specs.Str.{bytes_eq}
use Rattle.values.specs.Reading.{one}
use Rattle.values.specs.Rose.{Rose, node}
use Rattle.values.specs.Logical.{NamedType}
use Rattle.values.specs.declared.layout.OffsetWidth.TheVariants as offset
use Rattle.values.specs.declared.col_type.ColType.{ColType}
use Rattle.values.specs.declared.col_type.ColType.TheVariants as col
use Rattle.view_config.specs.Reading.{Reading}
use Rattle.view_config.specs.declared.faults.ConfigFault.TheVariants as fault
use Rattle.view_lang.specs.TableRules.{type_of}

abbrev pub name_of : Rose NamedType → List ℕ
name_of (node f kids) = f.name

-- Lists and structs have no order.
abbrev pub has_order : ColType → Bool
has_order (col.List o) = false
has_order col.Struct = false
has_order t = true

-- texts
abbrev pub is_text : ColType → Bool
is_text (col.Utf8 offset.Bits32) = true
is_text t = false

-- the first column of this name, with its number, where the first of these has number i
abbrev pub find : ℕ → List ℕ → List (Rose NamedType) → Option (ℕ × Rose NamedType)
find i name [] = None
find i name (c ∷ cs) = if bytes_eq (name_of c) name then Some (i, c) else find (i + 1) name cs

-- a column and its number, where its values have an order
abbrev pub ordered : ℕ × Rose NamedType → Reading (ℕ × Rose NamedType)
ordered f = if has_order (type_of f.1) then Ok f else Err (one fault.OrderType)

-- the index of this name among names, of which the first has index i
abbrev pub find_name : ℕ → List ℕ → List (List ℕ) → Option ℕ
find_name i name [] = None
find_name i name (n ∷ ns) = if bytes_eq n name then Some i else find_name (i + 1) name ns
