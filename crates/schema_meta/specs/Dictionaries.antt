-- The dictionaries of a schema. Fields whose dictionaries have one id share one: their values have one type.
use Rattle.std.specs.Prelude.{ℤ, Bool, true, false, ◌&&◌, List, Option, None, Some, if◌then◌else◌}
use Rattle.std.specs.Ordering.{int_eq}
use Rattle.values.specs.Rose.{Rose, node, Roses, none, more, kids_of}
use Rattle.values.specs.declared.col_type.ColType.{ColType}
use Rattle.values.specs.contracts.col_type.ColTypePartialEq.TheImpl as types
use Rattle.schema_meta.specs.declared.encoding.DictionaryEncoding.{DictionaryEncoding}
use Rattle.schema_meta.specs.Entry.{Entry}

-- the first of two that is there
abbrev pub or_next : Option ColType → Option ColType → Option ColType
or_next None m = m
or_next (Some s) m = Some s

-- the type of a field's values, if its dictionary has this id
abbrev pub own_type : ℤ → Option DictionaryEncoding → ColType → Option ColType
own_type id None s = None
own_type id (Some c) s = if int_eq c.id id then Some s else None

-- of the first such field, a field before those below it
abbrev mutual
  pub type_in : ℤ → Rose Entry → Option ColType
  type_in id (node e kids) = or_next (own_type id e.encoding e.stored) (type_below id kids)

  pub type_below : ℤ → Roses Entry → Option ColType
  type_below id none = None
  type_below id (more f fs) = or_next (type_in id f) (type_below id fs)

-- the type of the values of the dictionary with this id
unfoldable pub value_type : List (Rose Entry) → ℤ → Option ColType
value_type fields id = type_below id (kids_of fields)

-- A field with a dictionary has the type that is known of the dictionary's values.
abbrev pub is_type : ColType → Option ColType → Bool
is_type s None = false
is_type s (Some t) = types.ghosts.eq s t

abbrev pub own_agrees : (ℤ → Option ColType) → Option DictionaryEncoding → ColType → Bool
own_agrees known None s = true
own_agrees known (Some c) s = is_type s (known c.id)

abbrev mutual
  pub agrees : (ℤ → Option ColType) → Rose Entry → Bool
  agrees known (node e kids) = own_agrees known e.encoding e.stored && agree known kids

  pub agree : (ℤ → Option ColType) → Roses Entry → Bool
  agree known none = true
  agree known (more f fs) = agrees known f && agree known fs

-- No two fields use one id with different types: each has the type of the first with its id.
unfoldable pub are_consistent : List (Rose Entry) → Bool
are_consistent fields = agree (value_type fields) (kids_of fields)
