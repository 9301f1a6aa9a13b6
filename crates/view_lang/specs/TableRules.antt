-- The rules that each declared table obeys.
use Rattle.std.specs.Prelude.{◌≡◌, ℕ, ◌≤◌, List, Some, length, slice_get}
use Rattle.values.specs.ColTypes.{IsSingle, IsType}
use Rattle.values.specs.declared.col_type.ColType.{ColType}
use Rattle.values.specs.declared.layout.Layout.{Layout}
use Rattle.values.specs.Layouts.{AreLayouts, null_weight}
use Rattle.values.specs.Limits.{max_depth, max_fields, max_main_rows, max_null_weight}
use Rattle.values.specs.Logical.{AreLogicalColumns, NamedType, trees_of}
use Rattle.values.specs.Rose.{Rose, node, Roses, none, more, kids_of, roses_depth, roses_size}
use Rattle.view_lang.specs.Limits.{max_column_name_len, max_columns, max_side_rows}
use Rattle.view_lang.specs.Config.{Table}

abbrev pub IsName : List ℕ → Type 0
IsName name = (1 ≤ length name) × (length name ≤ max_column_name_len)

-- names of 1 to 255 bytes, and types within their bounds, at all levels
abbrev mutual
  pub IsWithin : Rose NamedType → Type 0
  IsWithin (node f kids) = IsName f.name × IsType f.col_type × AreWithin kids

  pub AreWithin : Roses NamedType → Type 0
  AreWithin none = Unit {0}
  AreWithin (more f fs) = IsWithin f × AreWithin fs

-- no null weight, at any level, is above 2^20
abbrev mutual
  pub IsSlim : Rose Layout → Type 0
  IsSlim (node l kids) = (null_weight (node l kids) ≤ max_null_weight) × AreSlim kids

  pub AreSlim : Roses Layout → Type 0
  AreSlim none = Unit {0}
  AreSlim (more t ts) = IsSlim t × AreSlim ts

-- The columns of a declared table or view. They are 1 to 64, with at most 1,024 fields at all levels and a depth of at
-- most 16; names are texts, types and null weights are within their bounds, and each field has the children that its
-- type requires.
pub record AreColumns (fields : List (Rose NamedType)) : Type 0 where
  pub some : 1 ≤ length fields
  pub few : length fields ≤ max_columns
  pub small : roses_size (kids_of fields) ≤ max_fields
  pub shallow : roses_depth (kids_of fields) ≤ max_depth
  pub within : AreWithin (kids_of fields)
  pub slim : AreSlim (trees_of (kids_of fields))
  pub layouts : AreLayouts (trees_of (kids_of fields))
  pub logical : AreLogicalColumns fields

abbrev pub type_of : Rose NamedType → ColType
type_of (node f kids) = f.col_type

-- the column of that number, whose values have an order
abbrev pub IsKeyColumn : ℕ → List (Rose NamedType) → Type 0
IsKeyColumn key fields = (f : Rose NamedType) × (slice_get fields key ≡ Some f) × IsSingle (type_of f)

pub record IsTable (t : Table) : Type 0 where
  pub columns : AreColumns t.columns
  pub key : IsKeyColumn t.key t.columns
  pub few : t.max_rows ≤ max_main_rows

-- A side table is known by its bound on rows; the main table's is another.
abbrev pub IsSideTable : Table → Type 0
IsSideTable t = t.max_rows ≡ max_side_rows
