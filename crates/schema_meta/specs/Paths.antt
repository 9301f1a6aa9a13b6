-- The faults of a schema by paths of slots: each path from the schema's table down is read by itself.
use Rattle.std.specs.Prelude.{◌≡◌, ℕ, ◌<◌, false, Option, None, Some, Ok, List, [], ◌∷◌, length}
use Rattle.flatbuf.specs.Layout.{Table, Vector, vector_of, entry_of}
use Rattle.values.specs.Limits.{max_fields, max_depth}
use Rattle.values.specs.Reading.{FailsWith}
use Rattle.values.specs.declared.faults.StreamFault.{StreamFault}
use Rattle.values.specs.declared.faults.StreamFault.TheVariants as fault
use Rattle.field_types.specs.declared.kinds.TypeKind.{TypeKind}
use Rattle.values.specs.Rose.{Rose}
use Rattle.schema_meta.specs.Entry.{Entry}
use Rattle.field_types.specs.SchemaFbs as fbs
use Rattle.field_types.specs.Reads.{readable, bool_of}
use Rattle.field_types.specs.Kinds.{kind_of, may_have}
use Rattle.field_types.specs.Types.{type_of}
use Rattle.schema_meta.specs.FieldLayouts.{layouts_of, null_weights_fit}
use Rattle.schema_meta.specs.Dictionaries.{are_consistent}
use Rattle.schema_meta.specs.Encoding.{field_encoding_of}
use Rattle.schema_meta.specs.Fields.{name_of, count_in, child_at, forest}
use Rattle.schema_meta.specs.Totals.{total}
use Rattle.schema_meta.specs.Schema.{endianness_of, schema_of}

-- The fault is one of a slot of the field's own table.
pub data FaultOfField (t : Table) (c : StreamFault) : Type 0 where
  in_name : FailsWith (name_of t) c → FaultOfField t c
  in_nullable : FailsWith (bool_of t fbs.nullable) c → FaultOfField t c
  in_kind : FailsWith (kind_of t) c → FaultOfField t c
  in_type : (k : TypeKind) → kind_of t ≡ Ok k → FailsWith (type_of k t) c → FaultOfField t c
  in_dictionary : (k : TypeKind) → kind_of t ≡ Ok k → FailsWith (field_encoding_of k t) c → FaultOfField t c
  in_children : (k : TypeKind) → kind_of t ≡ Ok k → FailsWith (readable (vector_of t fbs.children)) c → FaultOfField t c
  in_number :
      (k : TypeKind) (v : Option Vector) → kind_of t ≡ Ok k → vector_of t fbs.children ≡ Some v
      → may_have k (count_in v) ≡ false
      → fault.BadType ≡ c → FaultOfField t c

abbrev pub FaultOfEntry : Option Table → StreamFault → Type 0
FaultOfEntry None c = fault.BadTable ≡ c
FaultOfEntry (Some t) c = FaultOfField t c

-- A path is the numbers of the fields that it goes through: from the fields v to the fields w.
abbrev pub Leads : List ℕ → Vector → Vector → Type 0
Leads [] v w = v ≡ w
Leads (i ∷ p) v w = (i < v.count) × ((u : Vector) × (child_at v i ≡ Some u) × Leads p u w)

-- The fault is found at the end of a path through less than `depth` fields.
pub record FaultBelow (depth : ℕ) (v : Vector) (c : StreamFault) : Type 0 where
  pub path : List ℕ
  pub end : Vector
  pub leads : Leads path v end
  pub within : length path < depth
  pub index : ℕ
  pub inside : index < end.count
  pub fault_of : FaultOfEntry (entry_of end index) c

-- A path through as many fields leads to further ones.
pub record IsDeeper (depth : ℕ) (v : Vector) : Type 0 where
  pub path : List ℕ
  pub end : Vector
  pub leads : Leads path v end
  pub long : length path ≡ depth
  pub some : 0 < end.count

-- The faults of the columns: those by paths, too many fields by their counts or by their depth, and where all fields
-- are known a null weight that is too large, and dictionaries of one id with different types.
pub data FaultOfColumns (v : Vector) (c : StreamFault) : Type 0 where
  by_path : FaultBelow max_depth v c → FaultOfColumns v c
  by_depth : IsDeeper max_depth v → fault.TooManyFields ≡ c → FaultOfColumns v c
  by_count : max_fields < total max_depth v → fault.TooManyFields ≡ c → FaultOfColumns v c
  by_slot : (fs : List (Rose Entry)) → forest max_depth v ≡ Ok fs → null_weights_fit (layouts_of fs) ≡ false
      → fault.BadType ≡ c → FaultOfColumns v c
  by_clash : (fs : List (Rose Entry)) → forest max_depth v ≡ Ok fs → are_consistent fs ≡ false
      → fault.DictionaryClash ≡ c
      → FaultOfColumns v c

pub data FaultOfSchema (t : Table) (c : StreamFault) : Type 0 where
  in_endianness : FailsWith (endianness_of t) c → FaultOfSchema t c
  in_fields : FailsWith (readable (vector_of t fbs.fields)) c → FaultOfSchema t c
  in_columns : (v : Vector) → vector_of t fbs.fields ≡ Some (Some v) → FaultOfColumns v c → FaultOfSchema t c

-- A fault is in the schema's reading exactly where it is found by a path.
abbrev pub FoundByPaths : Type 0
FoundByPaths = (t : Table) (c : StreamFault) → FailsWith (schema_of t) c → FaultOfSchema t c

abbrev pub FaultsByPaths : Type 0
FaultsByPaths = (t : Table) (c : StreamFault) → FaultOfSchema t c → FailsWith (schema_of t) c
