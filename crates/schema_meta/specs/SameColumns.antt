-- Whether a stream's schema is the one that was declared for it: the same names and logical types, in order.
use Rattle.std.specs.Prelude.{Bool, true, false, ◌&&◌, List, map, nat_eq}
use Rattle.std.specs.Cmp.Lexicographic.{pointwise}
use Rattle.values.specs.Rose.{Rose, node, Roses, none, more, kids_of}
use Rattle.values.specs.Logical.{NamedType}
use Rattle.values.specs.contracts.col_type.ColTypePartialEq.TheImpl as types
use Rattle.schema_meta.specs.Entry.{Entry}
use Rattle.schema_meta.specs.Logical.{logical_field}

abbrev mutual
  pub is_same : Rose NamedType → Rose NamedType → Bool
  is_same (node a ks) (node b ls) =
      pointwise nat_eq a.name b.name && (types.ghosts.eq a.col_type b.col_type && are_same ks ls)

  pub are_same : Roses NamedType → Roses NamedType → Bool
  are_same none none = true
  are_same none (more g gs) = false
  are_same (more f fs) none = false
  are_same (more f fs) (more g gs) = is_same f g && are_same fs gs

unfoldable pub is_declared : List (Rose NamedType) → List (Rose Entry) → Bool
is_declared columns fields = are_same (kids_of columns) (kids_of (map logical_field fields))
