-- The logical schema of a stored one: offsets of any width are the same, a list's items are named `item`, and
-- nullability and dictionaries are left out.
use Rattle.values.specs.Rose.{Rose, node, Roses, none, more}
use Rattle.values.specs.Logical.{NamedType, logical_column}
use Rattle.schema_meta.specs.Entry.{Entry}

-- the name of a field and the type of its values, and so on down
abbrev mutual
  pub named_field : Rose Entry → Rose NamedType
  named_field (node e kids) = node (record { name = e.name; col_type = e.stored }) (named_below kids)

  pub named_below : Roses Entry → Roses NamedType
  named_below none = none
  named_below (more f fs) = more (named_field f) (named_below fs)

abbrev pub logical_field : Rose Entry → Rose NamedType
logical_field f = logical_column (named_field f)
