-- Arrays in which no slot can have a fault, so that none need be validated.
use Rattle.std.specs.Prelude.{Bool, true, false, ◌&&◌, Option, None, Some}
use Rattle.values.specs.Rose.{Rose, node, Roses, none, more}
use Rattle.values.specs.declared.layout.Layout.{Layout}
use Rattle.values.specs.declared.layout.Layout.TheVariants.{
  Bool as Booleans,
  Int,
  Decimal,
  FixedSizeBinary,
  Utf8,
  Binary,
  List as Listed,
  Struct,
}
use Rattle.array_layout.specs.declared.array.DictionaryValues.{DictionaryValues}
use Rattle.array_layout.specs.declared.array.ArrayData.{ArrayData}

-- a layout whose own slots have no faults
abbrev pub is_always_valid_layout : Layout → Bool
is_always_valid_layout Booleans = true
is_always_valid_layout (Int w s) = true
is_always_valid_layout (Decimal p) = false
is_always_valid_layout (FixedSizeBinary w) = true
is_always_valid_layout (Utf8 o) = false
is_always_valid_layout (Binary o) = true
is_always_valid_layout (Listed o) = true
is_always_valid_layout Struct = true

-- an array of this layout, without a dictionary: an index may be out of range
abbrev pub is_always_valid_data : Option DictionaryValues → Layout → Bool
is_always_valid_data None l = is_always_valid_layout l
is_always_valid_data (Some w) l = false

abbrev mutual
  pub is_always_valid : Rose ArrayData → Bool
  is_always_valid (node p kids) = is_always_valid_data p.dictionary p.layout && are_always_valid kids

  pub are_always_valid : Roses ArrayData → Bool
  are_always_valid none = true
  are_always_valid (more t ts) = is_always_valid t && are_always_valid ts
