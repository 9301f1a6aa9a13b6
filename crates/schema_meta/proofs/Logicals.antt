-- The names and types of fields, and the logical columns of fields.
use Rattle.std.proofs.Common.{◌≡◌, List, [], ◌∷◌, map, refl, ap}
use Rattle.values.specs.Rose.{Rose, node, Roses, none, more, kids_of}
use Rattle.values.proofs.Roses.{kid_smaller}
use Rattle.values.specs.Logical.{NamedType, logical_column}
use Rattle.schema_meta.specs.Entry.{Entry}
use Rattle.schema_meta.specs.Logical.{named_field, named_below, logical_field}
use Rattle.schema_meta.specs.SchemaLaw.{stored_field, stored_below}

pub named-all : (fs : List (Rose Entry)) → kids_of (map named_field fs) ≡ named_below (kids_of fs)
named-all [] = refl
named-all (f ∷ fs) = ap (λ r. more (named_field f) r) (named-all fs)

pub logical-all : (fs : List (Rose Entry)) → map logical_column (map named_field fs) ≡ map logical_field fs
logical-all [] = refl
logical-all (f ∷ fs) = ap (λ r. logical_field f ∷ r) (logical-all fs)

pub ruleset named = (named-all, logical-all, kid_smaller)

mutual
  pub named-stored : (f : Rose NamedType) → named_field (stored_field f) ≡ f
  named-stored (node f kids) = ap (λ ks. node f ks) (named-stored-all kids)

  pub named-stored-all : (fs : Roses NamedType) → named_below (stored_below fs) ≡ fs
  named-stored-all none = refl
  named-stored-all (more f fs) = rw (named-stored f, named-stored-all fs) refl
