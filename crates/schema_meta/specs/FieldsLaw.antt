-- What is known of fields that were read without a fault.
use Rattle.std.specs.Prelude.{◌≡◌, ◌≤◌, true, List, Option, None, Some, Ok, length, map}
use Rattle.std.specs.Str.{is_utf8}
use Rattle.flatbuf.specs.Layout.{Table}
use Rattle.values.specs.Limits.{max_fields, max_depth, max_name_len}
use Rattle.values.specs.Rose.{Rose, node, Roses, none, more, kids_of, roses_size, roses_depth}
use Rattle.values.specs.Layouts.{AreLayouts}
use Rattle.values.specs.ColTypes.{IsSingle, IsType}
use Rattle.values.specs.declared.col_type.ColType.{ColType}
use Rattle.schema_meta.specs.declared.encoding.DictionaryEncoding.{DictionaryEncoding}
use Rattle.schema_meta.specs.Dictionaries.{are_consistent}
use Rattle.schema_meta.specs.Entry.{Entry}
use Rattle.schema_meta.specs.FieldLayouts.{layouts_of, null_weights_fit, slot_layouts_of}
use Rattle.schema_meta.specs.Logical.{logical_field}
use Rattle.schema_meta.specs.Schema.{schema_of}
use Rattle.schema_meta.specs.SchemaTree.{AreColumns}
use Rattle.schema_meta.specs.SchemaLaw.{AreNamed}

-- the values of a dictionary are no lists or structs
abbrev pub IsDictionaryType : Option DictionaryEncoding → ColType → Type 0
IsDictionaryType None s = Unit {0}
IsDictionaryType (Some c) s = IsSingle s

-- names that are short texts, and types within their bounds, at all levels
abbrev mutual
  pub IsGoodField : Rose Entry → Type 0
  IsGoodField (node e kids) = (length e.name ≤ max_name_len) × (is_utf8 e.name ≡ true) × IsType e.stored
      × IsDictionaryType e.encoding e.stored × AreGoodFields kids

  pub AreGoodFields : Roses Entry → Type 0
  AreGoodFields none = Unit {0}
  AreGoodFields (more f fs) = IsGoodField f × AreGoodFields fs

-- Fields within the limits on their number, depth and slots, each with the children that its layout requires and with a
-- name and a type within bounds, and no two dictionaries of one id and of different types.
pub record AreFields (fields : List (Rose Entry)) : Type 0 where
  pub few : roses_size (kids_of fields) ≤ max_fields
  pub shallow : roses_depth (kids_of fields) ≤ max_depth
  pub layouts : AreLayouts (layouts_of fields)
  pub slots : AreLayouts (slot_layouts_of fields)
  pub null_weight_within : null_weights_fit (layouts_of fields) ≡ true
  pub clear : are_consistent fields ≡ true
  pub valid : AreGoodFields (kids_of fields)

abbrev pub FieldsLaw : Type 0
FieldsLaw = (t : Table) (fields : List (Rose Entry)) → schema_of t ≡ Ok fields → AreFields fields

-- A schema of such fields can be written.
abbrev pub ColumnsFit : Type 0
ColumnsFit = (fields : List (Rose Entry)) → AreFields fields → AreColumns (map logical_field fields)

-- A schema of such fields that is written is read back.
abbrev pub ColumnsNamed : Type 0
ColumnsNamed = (fields : List (Rose Entry)) → AreFields fields → AreNamed (map logical_field fields)
