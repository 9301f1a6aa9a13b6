-- What is written of a logical schema is read as that schema.
use Rattle.std.specs.Prelude.{◌≡◌, ◌≤◌, ℕ, suc, true, List, [], ◌∷◌, map, Option, None, Some, Ok, ⊤}
use Rattle.values.specs.Rose.{Rose, node, Roses, none, more, kids_of, roses_depth}
use Rattle.values.specs.Layouts.{AreLayouts}
use Rattle.values.specs.Logical.{NamedType, AreLogicalColumns, trees_of}
use Rattle.schema_meta.specs.Entry.{Entry}
use Rattle.values.specs.Coded.{AreCoded}
use Rattle.schema_meta.specs.Coded.{encoding_at}
use Rattle.schema_meta.specs.FieldLayouts.{null_weights_fit}
use Rattle.schema_meta.specs.Logical.{logical_field}
use Rattle.schema_meta.specs.SchemaTree.{AreColumns, schema_metadata}
use Rattle.schema_meta.specs.Stage.{Known}
use Rattle.schema_meta.specs.Message.{meta_of, brings_schema}

-- a column as it is read: it is nullable
abbrev mutual
  pub stored_field : Rose NamedType → Rose Entry
  stored_field (node f kids) =
      node (record { name = f.name; nullable = true; stored = f.col_type; encoding = None }) (stored_below kids)

  pub stored_below : Roses NamedType → Roses Entry
  stored_below none = none
  stored_below (more f fs) = more (stored_field f) (stored_below fs)

abbrev pub stored_fields : List (Rose NamedType) → List (Rose Entry)
stored_fields fs = map stored_field fs

-- the columns from position j on as they are read, where those at some positions are coded
abbrev pub coded_from : List ℕ → ℕ → List (Rose NamedType) → List (Rose Entry)
coded_from coded j [] = []
coded_from coded j (node f kids ∷ fs) =
    node (record { name = f.name; nullable = true; stored = f.col_type; encoding = encoding_at coded j })
    (stored_below kids)
    ∷ coded_from coded (suc j) fs

abbrev pub coded_fields : List ℕ → List (Rose NamedType) → List (Rose Entry)
coded_fields coded fs = coded_from coded 0 fs

-- where none is, these are the columns without dictionaries
abbrev pub NoneCoded : Type 0
NoneCoded = (fs : List (Rose NamedType)) → coded_fields [] fs ≡ stored_fields fs

-- The columns of a logical schema, which a stream can have: each field has the children that its type requires, and
-- they are neither too deep nor too wide.
pub record AreNamed (fields : List (Rose NamedType)) : Type 0 where
  pub logical : AreLogicalColumns fields
  pub layouts : AreLayouts (trees_of (kids_of fields))
  pub shallow : roses_depth (kids_of fields) ≤ 16
  pub null_weight_within : null_weights_fit (trees_of (kids_of fields)) ≡ true

-- a stream before its schema, with the columns that are declared for it, if any are
abbrev pub before : Option (List (Rose NamedType)) → Known
before declared = record { declared = declared; schema = None; counts = [] }

-- These columns, where any are declared, are the schema's.
abbrev pub AreExpected : Option (List (Rose NamedType)) → List (Rose NamedType) → Type 0
AreExpected None fs = ⊤
AreExpected (Some columns) fs = columns ≡ fs

-- The metadata of the Schema message is read as the schema and a body of length 0.
abbrev pub SchemaLaw : Type 0
SchemaLaw =
    (declared : Option (List (Rose NamedType))) (coded : List ℕ) (fs : List (Rose NamedType)) → AreColumns fs
    → AreNamed fs → AreCoded coded fs → AreExpected declared fs
    → meta_of (before declared) (schema_metadata coded fs) ≡ Ok (brings_schema 0 (coded_fields coded fs))

-- The columns as they are read are the logical ones.
abbrev pub ColumnsLaw : Type 0
ColumnsLaw =
    (coded : List ℕ) (fs : List (Rose NamedType)) → AreNamed fs → map logical_field (coded_fields coded fs) ≡ fs
