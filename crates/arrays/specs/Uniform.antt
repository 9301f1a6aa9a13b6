-- Arrays all of whose cells weigh the same, whatever they hold: what a null weighs.
use Rattle.std.specs.Prelude.{Bool, true, false, ◌&&◌, Option, None, Some}
use Rattle.values.specs.Rose.{Rose, node, Roses, none, more}
use Rattle.values.specs.declared.layout.Layout.{Layout}
use Rattle.values.specs.declared.layout.Layout.TheVariants.{
  Bool as Booleans,
  Int,
  Decimal,
  FixedSizeBinary,
  Utf8,
  Binary,
  List as Listed,
  Struct,
}
use Rattle.array_layout.specs.declared.array.DictionaryValues.{DictionaryValues}
use Rattle.array_layout.specs.declared.array.ArrayData.{ArrayData}

-- a bit, or bytes of a fixed width, for each slot
abbrev pub is_fixed : Layout → Bool
is_fixed Booleans = true
is_fixed (Int w s) = true
is_fixed (Decimal p) = true
is_fixed (FixedSizeBinary w) = true
is_fixed (Utf8 o) = false
is_fixed (Binary o) = false
is_fixed (Listed o) = false
is_fixed Struct = false

abbrev pub is_uniform_layout : Layout → Bool
is_uniform_layout Struct = true
is_uniform_layout l = is_fixed l

abbrev pub is_uniform_data : Option DictionaryValues → Layout → Bool
is_uniform_data None l = is_uniform_layout l
is_uniform_data (Some w) l = is_fixed w.layout

abbrev mutual
  pub is_uniform : Rose ArrayData → Bool
  is_uniform (node p kids) = is_uniform_data p.dictionary p.layout && are_uniform kids

  pub are_uniform : Roses ArrayData → Bool
  are_uniform none = true
  are_uniform (more t ts) = is_uniform t && are_uniform ts
