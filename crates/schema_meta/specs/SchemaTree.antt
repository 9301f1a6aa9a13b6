-- Arrow's Schema table (Schema.fbs) as a tree, as it is written for a logical schema.
use Rattle.std.specs.Prelude.{ℕ, suc, ◌≤◌, true, if◌then◌else◌, List, [], ◌∷◌, length, Option, None, Some}
use Rattle.flatbuf.specs.Tree.{
  Node,
  absent,
  number,
  text,
  table,
  references,
  Nodes,
  no_nodes,
  nodes_of,
  node as and_node,
}
use Rattle.flatbuf.specs.Written.{whole}
use Rattle.values.specs.Limits.{max_fields, max_name_len}
use Rattle.values.specs.Rose.{Rose, node, Roses, none, more, kids_of, roses_size}
use Rattle.values.specs.Logical.{NamedType}
use Rattle.values.specs.declared.layout.IntWidth.TheVariants as int
use Rattle.values.specs.declared.col_type.ColType.TheVariants as stored
use Rattle.values.specs.ColTypes.{IsType}
use Rattle.field_types.specs.SchemaFbs as schema_fbs
use Rattle.field_types.specs.TypeTree.{type_number, type_slots}
use Rattle.schema_meta.specs.declared.header.MessageKind.TheVariants as kind
use Rattle.schema_meta.specs.MessageTree.{message_slots}
use Rattle.values.specs.Coded.{is_coded}

-- name, nullable, the type's number and table, the dictionary, the children
abbrev pub slots_with : Node → NamedType → Nodes → Nodes
slots_with dictionary f children =
    nodes_of (text f.name ∷ number 1 1 ∷ number 1 (type_number f.col_type) ∷ table (type_slots f.col_type)
    ∷ dictionary ∷ references children ∷ [])

-- a field without a dictionary
abbrev mutual
  pub field_slots : Rose NamedType → Nodes
  field_slots (node f kids) = slots_with absent f (field_tables kids)

  pub field_tables : Roses NamedType → Nodes
  field_tables none = no_nodes
  field_tables (more f fs) = and_node (table (field_slots f)) (field_tables fs)

-- table DictionaryEncoding: the id, indices of 32 bits with a sign, no order, a dense array
abbrev pub encoding_slots : ℕ → Nodes
encoding_slots id =
    nodes_of (number 8 id ∷ table (type_slots (stored.Int int.Bits32 true)) ∷ number 1 0
    ∷ number 2 schema_fbs.dense_array ∷ [])

-- the dictionary of this id, if there is one
abbrev pub dictionary_node : Option ℕ → Node
dictionary_node None = absent
dictionary_node (Some id) = table (encoding_slots id)

-- a field with this dictionary
abbrev pub slots_of : Node → Rose NamedType → Nodes
slots_of dictionary (node f kids) = slots_with dictionary f (field_tables kids)

-- the dictionary of a coded column, whose id is the column's position
abbrev pub encoding_node : List ℕ → ℕ → Node
encoding_node coded j = dictionary_node (if is_coded coded j then Some j else None)

abbrev pub column_slots : List ℕ → ℕ → Rose NamedType → Nodes
column_slots coded j f = slots_of (encoding_node coded j) f

-- the columns from this position on
abbrev pub column_tables : List ℕ → ℕ → List (Rose NamedType) → Nodes
column_tables coded j [] = no_nodes
column_tables coded j (f ∷ fs) = and_node (table (column_slots coded j f)) (column_tables coded (suc j) fs)

-- little endian, the fields
abbrev pub schema_slots : List ℕ → List (Rose NamedType) → Nodes
schema_slots coded fs =
    nodes_of (number 2 schema_fbs.little_endian ∷ references (column_tables coded 0 fs) ∷ [])

-- the metadata of the Schema message, where the columns at these positions have dictionaries
unfoldable pub schema_metadata : List ℕ → List (Rose NamedType) → List ℕ
schema_metadata coded fs = whole (message_slots kind.Schema (schema_slots coded fs) 0)

-- names that are short enough, and types within their bounds, at all levels
abbrev mutual
  pub IsWithin : Rose NamedType → Type 0
  IsWithin (node f kids) = (length f.name ≤ max_name_len) × IsType f.col_type × AreWithin kids

  pub AreWithin : Roses NamedType → Type 0
  AreWithin none = Unit {0}
  AreWithin (more f fs) = IsWithin f × AreWithin fs

-- a schema within the limits
pub record AreColumns (fields : List (Rose NamedType)) : Type 0 where
  pub few : roses_size (kids_of fields) ≤ max_fields
  pub within : AreWithin (kids_of fields)
