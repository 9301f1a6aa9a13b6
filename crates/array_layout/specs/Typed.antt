-- The values of an array's dictionary, and of the dictionaries below it, are of the layouts that are given with them.
use Rattle.std.specs.Prelude.{All, Option, None, Some}
use Rattle.values.specs.Layouts.{Holds}
use Rattle.values.specs.Rose.{Rose, node, Roses, none, more}
use Rattle.array_layout.specs.declared.array.DictionaryValues.{DictionaryValues}
use Rattle.array_layout.specs.declared.array.ArrayData.{ArrayData}

abbrev pub IsTypedDictionary : Option DictionaryValues → Type 0
IsTypedDictionary None = Unit {0}
IsTypedDictionary (Some w) = All (Holds (node w.layout none)) w.values

abbrev mutual
  pub IsTyped : Rose ArrayData → Type 0
  IsTyped (node p kids) = IsTypedDictionary p.dictionary × AreTyped kids

  pub AreTyped : Roses ArrayData → Type 0
  AreTyped none = Unit {0}
  AreTyped (more t ts) = IsTyped t × AreTyped ts
