-- Apache Arrow Schema.fbs, table Field: a field with its children, and its faults. The parts of a field are read each
-- by itself.
use Rattle.std.specs.Prelude.{
  ℕ,
  zero,
  suc,
  Bool,
  ◌&&◌,
  Option,
  None,
  Some,
  Ok,
  Err,
  List,
  [],
  length,
  nat_le,
  ◌==◌,
  if◌then◌else◌,
}
use Rattle.std.specs.Str.{is_utf8}
use Rattle.flatbuf.specs.Layout.{Table, Vector, text_of, vector_of, entry_of}
use Rattle.values.specs.Limits.{max_name_len}
use Rattle.values.specs.Reading.{Reading, ◌>>=◌, both, second, each, one}
use Rattle.values.specs.Rose.{Rose, node, kids_of}
use Rattle.values.specs.declared.faults.StreamFault.TheVariants as fault
use Rattle.field_types.specs.declared.kinds.TypeKind.{TypeKind}
use Rattle.values.specs.declared.col_type.ColType.{ColType}
use Rattle.schema_meta.specs.declared.encoding.DictionaryEncoding.{DictionaryEncoding}
use Rattle.schema_meta.specs.Entry.{Entry}
use Rattle.schema_meta.specs.Encoding.{field_encoding_of}
use Rattle.field_types.specs.SchemaFbs as fbs
use Rattle.field_types.specs.Reads.{readable, checked, needs, bool_of}
use Rattle.field_types.specs.Kinds.{kind_of, may_have}
use Rattle.field_types.specs.Types.{type_of}

-- A name is UTF-8 of at most 4,096 bytes. An absent one is empty.
abbrev pub checked_name : List ℕ → Reading (List ℕ)
checked_name bytes = checked fault.BadName (nat_le (length bytes) max_name_len && is_utf8 bytes) bytes

abbrev pub name_in : Option (List ℕ) → Reading (List ℕ)
name_in None = Ok []
name_in (Some bytes) = checked_name bytes

unfoldable pub name_of : Table → Reading (List ℕ)
name_of t = readable (text_of t fbs.name) >>= name_in

-- An absent vector is an empty one.
abbrev pub count_in : Option Vector → ℕ
count_in None = 0
count_in (Some v) = v.count

abbrev pub fields_in : (Vector → Reading (List (Rose Entry))) → Option Vector → Reading (List (Rose Entry))
fields_in below None = Ok []
fields_in below (Some v) = below v

-- the children of a field of this kind, where `below` reads a vector of fields
unfoldable pub children_of : (Vector → Reading (List (Rose Entry))) → TypeKind → Table → Reading (List (Rose Entry))
children_of below k t = do
  v ← readable (vector_of t fbs.children)
  both second (needs fault.BadType (may_have k (count_in v))) (fields_in below v)

-- the parts of a field that don't depend on the kind of its type
pub record Label : Type 0 where
  pub name : List ℕ
  pub nullable : Bool

-- how a field's values are stored: their type, and the dictionary encoding, if there is one
pub record Storage : Type 0 where
  pub stored : ColType
  pub encoding : Option DictionaryEncoding

-- how the values are stored, and the field's children
pub record Content : Type 0 where
  pub storage : Storage
  pub children : List (Rose Entry)

abbrev pub label : List ℕ → Bool → Label
label name nullable = record { name = name; nullable = nullable }

abbrev pub storage : ColType → Option DictionaryEncoding → Storage
storage stored encoding = record { stored = stored; encoding = encoding }

abbrev pub content : Storage → List (Rose Entry) → Content
content storage children = record { storage = storage; children = children }

abbrev pub field : Label → Content → Rose Entry
field l c =
    node (record { name = l.name; nullable = l.nullable; stored = c.storage.stored; encoding = c.storage.encoding })
    (kids_of c.children)

unfoldable pub label_of : Table → Reading Label
label_of t = both label (name_of t) (bool_of t fbs.nullable)

-- Where the kind can't be read, or isn't supported, that is the fault, and nothing that depends on it is read.
unfoldable pub content_of : (Vector → Reading (List (Rose Entry))) → Table → Reading Content
content_of below t = do
  k ← kind_of t
  both content (both storage (type_of k t) (field_encoding_of k t)) (children_of below k t)

-- a field by its table, where `below` reads a vector of fields
unfoldable pub field_of : (Vector → Reading (List (Rose Entry))) → Table → Reading (Rose Entry)
field_of below t = both field (label_of t) (content_of below t)

unfoldable pub entry_by : (Vector → Reading (List (Rose Entry))) → Vector → ℕ → Reading (Rose Entry)
entry_by below v i = readable (entry_of v i) >>= field_of below

-- the children of field i, where they can be read
abbrev pub children_by : Reading TypeKind → Option (Option Vector) → Option Vector
children_by (Ok k) None = None
children_by (Ok k) (Some v) = v
children_by (Err fs) v = None

abbrev pub children_at : Option Table → Option Vector
children_at None = None
children_at (Some t) = children_by (kind_of t) (vector_of t fbs.children)

unfoldable pub child_at : Vector → ℕ → Option Vector
child_at v i = children_at (entry_of v i)

-- the fields of a vector, nested to at most this many levels
unfoldable pub forest : ℕ → Vector → Reading (List (Rose Entry))
forest zero v = if v.count == 0 then Ok [] else Err (one fault.TooManyFields)
forest (suc depth) v = each (entry_by (forest depth) v) 0 v.count
