-- Apache Arrow Schema.fbs, table DictionaryEncoding: the dictionary to which a field's slots are indices.
use Rattle.std.specs.Prelude.{ℤ, pos, Bool, true, false, Option, None, Some, Ok}
use Rattle.std.specs.Ordering.{int_eq}
use Rattle.flatbuf.specs.Layout.{Table, subtable_of}
use Rattle.values.specs.Reading.{Reading, ◌>>=◌, both, first, second, mapped}
use Rattle.values.specs.declared.faults.StreamFault.TheVariants as fault
use Rattle.values.specs.declared.layout.IntWidth.TheVariants as int
use Rattle.field_types.specs.declared.kinds.TypeKind.{TypeKind}
use Rattle.field_types.specs.declared.kinds.TypeKind.TheVariants as kind
use Rattle.field_types.specs.declared.index.IndexType.{IndexType}
use Rattle.field_types.specs.Reads.{readable, needs, long_of, short_of}
use Rattle.field_types.specs.Types.{index_of}
use Rattle.schema_meta.specs.declared.encoding.DictionaryEncoding.{DictionaryEncoding}
use Rattle.field_types.specs.SchemaFbs as fbs

-- An absent id is 0.
unfoldable pub id_of : Table → Reading ℤ
id_of t = long_of t fbs.dictionary_id

-- Where no index type is given, indices have 32 bits and a sign.
abbrev pub index_in : Option Table → Reading IndexType
index_in None = Ok (record { width = int.Bits32; signed = true })
index_in (Some t) = index_of t

unfoldable pub index_type_of : Table → Reading IndexType
index_type_of t = readable (subtable_of t fbs.index_type) >>= index_in

-- enum DictionaryKind has 0, DenseArray, alone
unfoldable pub dense_of : Table → Reading (Unit {0})
dense_of t = short_of t fbs.dictionary_kind (pos 0)
    >>= λ k. needs fault.UnsupportedType (int_eq k (pos fbs.dense_array))

abbrev pub encoding : ℤ → IndexType → DictionaryEncoding
encoding id index = record { id = id; index = index }

unfoldable pub encoding_of : Table → Reading DictionaryEncoding
encoding_of t = both first (both encoding (id_of t) (index_type_of t)) (dense_of t)

-- Lists and structs have no dictionary.
abbrev pub may_be_encoded : TypeKind → Bool
may_be_encoded (kind.List o) = false
may_be_encoded kind.Struct = false
may_be_encoded k = true

abbrev pub coded_by : TypeKind → Option Table → Reading (Option DictionaryEncoding)
coded_by k None = Ok None
coded_by k (Some t) = both second (needs fault.UnsupportedType (may_be_encoded k)) (mapped Some (encoding_of t))

-- the dictionary of a field of this kind, if it has one
unfoldable pub field_encoding_of : TypeKind → Table → Reading (Option DictionaryEncoding)
field_encoding_of k t = readable (subtable_of t fbs.dictionary) >>= coded_by k
