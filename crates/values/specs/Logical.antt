-- The logical schema: names and types, whatever the width of offsets. A list's items are named `item`.
use Rattle.std.specs.Prelude.{◌≡◌, ℕ, true, List, [], ◌∷◌, refl}
use Rattle.std.specs.Coded.{Coded, Coded-set, code_by, coded×, coded_ℕ, coded_bool, coded_list, ×_prop, Unit-prop}
use Rattle.std.specs.Str.{is_utf8}
use Rattle.values.specs.Rose.{Rose, node, Roses, none, more, kids_of}
use Rattle.values.specs.declared.layout.Layout.{Layout}
use Rattle.values.specs.declared.layout.OffsetWidth.TheVariants as offset
use Rattle.values.specs.contracts.col_type.ColType.{the_row}
use Rattle.values.specs.declared.col_type.ColType.{ColType}
use Rattle.values.specs.declared.col_type.ColType.TheVariants as col
use Rattle.values.specs.ColTypes.{layout_of}

-- a field's name, as bytes, and its type
pub record NamedType : Type 0 where
  pub name : List ℕ
  pub col_type : ColType

abbrev pub logical_code : Coded NamedType
logical_code =
    code_by (List ℕ × ColType) (coded× (coded_list coded_ℕ) the_row.coded) (λ f. (f.name, f.col_type))
    (λ p. record { name = p.0; col_type = p.1 }) (λ _. refl)

-- the same type with offsets of 32 bits
abbrev pub narrow : ColType → ColType
narrow col.Bool = col.Bool
narrow (col.Int w s) = col.Int w s
narrow (col.Decimal p s) = col.Decimal p s
narrow (col.Date u) = col.Date u
narrow (col.Time u) = col.Time u
narrow (col.Timestamp u z) = col.Timestamp u z
narrow (col.Duration u) = col.Duration u
narrow (col.Utf8 o) = col.Utf8 offset.Bits32
narrow (col.Binary o) = col.Binary offset.Bits32
narrow (col.FixedSizeBinary w) = col.FixedSizeBinary w
narrow (col.List o) = col.List offset.Bits32
narrow col.Struct = col.Struct

-- `item`
abbrev pub item_name : List ℕ
item_name = 105 ∷ 116 ∷ 101 ∷ 109 ∷ []

-- the logical name of a child of a field of this type
abbrev pub child_name : ColType → List ℕ → List ℕ
child_name (col.List o) name = item_name
child_name s name = name

-- A field below one of this type as a logical one, and those below it.
abbrev mutual
  pub logical_in : ColType → Rose NamedType → Rose NamedType
  logical_in parent (node f kids) =
      node (record { name = child_name parent f.name; col_type = narrow f.col_type }) (logical_below f.col_type kids)

  pub logical_below : ColType → Roses NamedType → Roses NamedType
  logical_below parent none = none
  logical_below parent (more f fs) = more (logical_in parent f) (logical_below parent fs)

-- a column, with its own name
abbrev pub logical_column : Rose NamedType → Rose NamedType
logical_column = logical_in col.Struct

-- Below a field of this type: names are texts, the items of lists are named `item`, and offsets have 32 bits.
abbrev mutual
  pub IsLogical : ColType → Rose NamedType → Type 0
  IsLogical parent (node f kids) =
      (is_utf8 f.name ≡ true) × (child_name parent f.name ≡ f.name) × (narrow f.col_type ≡ f.col_type)
      × AreLogical f.col_type kids

  pub AreLogical : ColType → Roses NamedType → Type 0
  AreLogical parent none = Unit {0}
  AreLogical parent (more f fs) = IsLogical parent f × AreLogical parent fs

is-text-prop : (name : List ℕ) → IsProp (is_utf8 name ≡ true)
is-text-prop name = Coded-set coded_bool (is_utf8 name) true

is-name-prop : (parent : ColType) (name : List ℕ) → IsProp (child_name parent name ≡ name)
is-name-prop parent name = Coded-set (coded_list coded_ℕ) (child_name parent name) name

is-type-prop : (t : ColType) → IsProp (narrow t ≡ t)
is-type-prop t = Coded-set the_row.coded (narrow t) t

mutual
  IsLogical-prop : (parent : ColType) (f : Rose NamedType) → IsProp (IsLogical parent f)
  IsLogical-prop parent (node f kids) = λ a b i. (
    is-text-prop f.name a.0 b.0 i,
    is-name-prop parent f.name a.1 b.1 i,
    is-type-prop f.col_type a.2 b.2 i,
    AreLogical-prop f.col_type kids a.3 b.3 i,
  )

  AreLogical-prop : (parent : ColType) (fs : Roses NamedType) → IsProp (AreLogical parent fs)
  AreLogical-prop parent none = Unit-prop
  AreLogical-prop parent (more f fs) = ×_prop (IsLogical-prop parent f) (AreLogical-prop parent fs)

-- the columns of a schema are logical
abbrev pub AreLogicalColumns : List (Rose NamedType) → Type 0
AreLogicalColumns fs = AreLogical col.Struct (kids_of fs)

pub AreLogicalColumns-prop : (fs : List (Rose NamedType)) → IsProp (AreLogicalColumns fs)
AreLogicalColumns-prop fs = AreLogical-prop col.Struct (kids_of fs)

-- the layouts of the values
abbrev mutual
  pub tree_of : Rose NamedType → Rose Layout
  tree_of (node f kids) = node (layout_of f.col_type) (trees_of kids)

  pub trees_of : Roses NamedType → Roses Layout
  trees_of none = none
  trees_of (more f fs) = more (tree_of f) (trees_of fs)
