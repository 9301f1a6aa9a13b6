-- A schema has no clash of dictionary ids exactly where any two fields with one id, at all levels, have the same type.
use Rattle.std.specs.Prelude.{◌≡◌, ◌⊎◌, ◌↔◌, ℤ, true, List, Some, None, Option}
use Rattle.values.specs.Rose.{Rose, node, Roses, none, more, kids_of}
use Rattle.values.specs.declared.col_type.ColType.{ColType}
use Rattle.schema_meta.specs.declared.encoding.DictionaryEncoding.{DictionaryEncoding}
use Rattle.schema_meta.specs.Dictionaries.{are_consistent, value_type}
use Rattle.schema_meta.specs.Entry.{Entry}

-- the dictionary has this id, and its values this type
abbrev pub IsOwn : ℤ → ColType → Option DictionaryEncoding → ColType → Type 0
IsOwn id s None t = ⊥
IsOwn id s (Some c) t = (c.id ≡ id) × (s ≡ t)

-- a field, or one below it, has a dictionary of this id, whose values have this type
abbrev mutual
  pub Uses : ℤ → ColType → Rose Entry → Type 0
  Uses id s (node e kids) = IsOwn id s e.encoding e.stored ⊎ UsesBelow id s kids

  pub UsesBelow : ℤ → ColType → Roses Entry → Type 0
  UsesBelow id s none = ⊥
  UsesBelow id s (more f fs) = Uses id s f ⊎ UsesBelow id s fs

abbrev pub HaveOneType : List (Rose Entry) → Type 0
HaveOneType fields =
    (id : ℤ) (s t : ColType) → UsesBelow id s (kids_of fields) → UsesBelow id t (kids_of fields) → s ≡ t

abbrev pub ClashLaw : Type 0
ClashLaw = (fields : List (Rose Entry)) → (are_consistent fields ≡ true) ↔ HaveOneType fields

-- the type that is found for an id is that of a field with the id, if there is one
abbrev pub TypeLaw : Type 0
TypeLaw =
    (fields : List (Rose Entry)) (id : ℤ) (s : ColType) → are_consistent fields ≡ true
    → (value_type fields id ≡ Some s) ↔ UsesBelow id s (kids_of fields)
