-- The metadata of a Schema message that another program wrote, with the columns k and v of int64: the definitions give
-- what it means.
use Rattle.std.proofs.Common.{
  ◌≡◌,
  ℕ,
  pos,
  true,
  List,
  [],
  ◌∷◌,
  None,
  Some,
  Ok,
  Err,
  refl,
  slice_set,
  ◌<◌,
  zero,
  suc,
  slice_index,
  arith,
}
use Rattle.std.specs.Str.{is_utf8}
use Rattle.std.proofs.lemmas.Str.{is_utf8-from_IsUtf8, IsUtf8-from_ascii}
use Rattle.flatbuf.specs.Layout.{
  number_at,
  signed_at,
  target_at,
  bytes_at,
  block_at,
  place_of_vtable,
  vtable_at,
  table_at,
  root_of,
  slot_of,
  number_of,
  signed_of,
  structs_of,
  subtable_of,
  vector_at,
  vector_of,
  entry_of,
}
use Rattle.values.specs.Reading.{Reading, ◌>>=◌, must, each, one}
use Rattle.values.specs.Rose.{Rose, node, none}
use Rattle.values.specs.declared.faults.StreamFault.TheVariants as fault
use Rattle.values.specs.declared.layout.IntWidth.TheVariants as int
use Rattle.values.specs.declared.layout.OffsetWidth.TheVariants as offset
use Rattle.field_types.specs.declared.index.IndexType.{IndexType}
use Rattle.values.specs.declared.col_type.ColType.TheVariants as stored
use Rattle.field_types.specs.Kinds.{kind_numbered, kind_of}
use Rattle.field_types.specs.Reads.{readable, bool_of, short_of, i32_of}
use Rattle.field_types.specs.Types.{width_of, int_of, index_of, type_of}
use Rattle.schema_meta.specs.Entry.{Entry}
use Rattle.schema_meta.specs.Fields.{name_of, children_of, label_of, content_of, field_of, entry_by, child_at, forest}
use Rattle.schema_meta.specs.Totals.{sum_from, total_at, total}
use Rattle.schema_meta.specs.Schema.{endianness_of, validated_fields, columns_of, schema_of}
use Rattle.schema_meta.specs.Dictionaries.{value_type, are_consistent}
use Rattle.schema_meta.specs.Encoding.{id_of, index_type_of, dense_of, encoding_of, field_encoding_of}

abbrev metadata : List ℕ
metadata =
    24 ∷ 0 ∷ 0 ∷ 0 ∷ 0 ∷ 0 ∷ 0 ∷ 0 ∷ 12 ∷ 0 ∷ 24 ∷ 0 ∷ 4 ∷ 0 ∷ 6 ∷ 0 ∷
    8 ∷ 0 ∷ 16 ∷ 0 ∷ 0 ∷ 0 ∷ 0 ∷ 0 ∷ 16 ∷ 0 ∷ 0 ∷ 0 ∷ 4 ∷ 0 ∷ 1 ∷ 0 ∷
    24 ∷ 0 ∷ 0 ∷ 0 ∷ 0 ∷ 0 ∷ 0 ∷ 0 ∷ 0 ∷ 0 ∷ 0 ∷ 0 ∷ 0 ∷ 0 ∷ 0 ∷ 0 ∷
    8 ∷ 0 ∷ 12 ∷ 0 ∷ 4 ∷ 0 ∷ 8 ∷ 0 ∷ 8 ∷ 0 ∷ 0 ∷ 0 ∷ 0 ∷ 0 ∷ 0 ∷ 0 ∷
    4 ∷ 0 ∷ 0 ∷ 0 ∷ 2 ∷ 0 ∷ 0 ∷ 0 ∷ 24 ∷ 0 ∷ 0 ∷ 0 ∷ 92 ∷ 0 ∷ 0 ∷ 0 ∷
    16 ∷ 0 ∷ 20 ∷ 0 ∷ 4 ∷ 0 ∷ 8 ∷ 0 ∷ 9 ∷ 0 ∷ 12 ∷ 0 ∷ 0 ∷ 0 ∷ 16 ∷ 0 ∷
    16 ∷ 0 ∷ 0 ∷ 0 ∷ 16 ∷ 0 ∷ 0 ∷ 0 ∷ 1 ∷ 2 ∷ 0 ∷ 0 ∷ 28 ∷ 0 ∷ 0 ∷ 0 ∷
    36 ∷ 0 ∷ 0 ∷ 0 ∷ 1 ∷ 0 ∷ 0 ∷ 0 ∷ 107 ∷ 0 ∷ 0 ∷ 0 ∷ 0 ∷ 0 ∷ 0 ∷ 0 ∷
    8 ∷ 0 ∷ 12 ∷ 0 ∷ 4 ∷ 0 ∷ 8 ∷ 0 ∷ 8 ∷ 0 ∷ 0 ∷ 0 ∷ 64 ∷ 0 ∷ 0 ∷ 0 ∷
    1 ∷ 0 ∷ 0 ∷ 0 ∷ 0 ∷ 0 ∷ 0 ∷ 0 ∷ 16 ∷ 0 ∷ 20 ∷ 0 ∷ 4 ∷ 0 ∷ 8 ∷ 0 ∷
    9 ∷ 0 ∷ 12 ∷ 0 ∷ 0 ∷ 0 ∷ 16 ∷ 0 ∷ 16 ∷ 0 ∷ 0 ∷ 0 ∷ 16 ∷ 0 ∷ 0 ∷ 0 ∷
    1 ∷ 2 ∷ 0 ∷ 0 ∷ 28 ∷ 0 ∷ 0 ∷ 0 ∷ 36 ∷ 0 ∷ 0 ∷ 0 ∷ 1 ∷ 0 ∷ 0 ∷ 0 ∷
    118 ∷ 0 ∷ 0 ∷ 0 ∷ 0 ∷ 0 ∷ 0 ∷ 0 ∷ 8 ∷ 0 ∷ 12 ∷ 0 ∷ 4 ∷ 0 ∷ 8 ∷ 0 ∷
    8 ∷ 0 ∷ 0 ∷ 0 ∷ 64 ∷ 0 ∷ 0 ∷ 0 ∷ 1 ∷ 0 ∷ 0 ∷ 0 ∷ 0 ∷ 0 ∷ 0 ∷ 0 ∷ []

-- the schema in the metadata of a message, whose third slot is the header
abbrev schema_in : List ℕ → Reading (List (Rose Entry))
schema_in bytes = readable (root_of bytes) >>= λ message. readable (subtable_of message 2) >>= must fault.BadTable
    >>= schema_of

abbrev column : ℕ → Rose Entry
column letter =
    node (record { name = letter ∷ []; nullable = true; stored = stored.Int int.Bits64 true; encoding = None }) none

letter : (c : ℕ) → c < 128 → is_utf8 (c ∷ []) ≡ true
letter c h = is_utf8-from_IsUtf8 (c ∷ []) (IsUtf8-from_ascii (c ∷ []) ascii)
  where
    ascii : (i : ℕ) → slice_index (c ∷ []) i < 128
    ascii zero = h
    ascii (suc i) = omega arith

-- the columns, and the fault of a changed byte: the root's offset, the endianness, the first column's kind and its
-- width
pub sample :
    (schema_in metadata ≡ Ok (column 107 ∷ column 118 ∷ []))
    × (schema_in (slice_set metadata 0 220) ≡ Err (one fault.BadTable))
    × (schema_in (slice_set metadata 60 1) ≡ Err (one fault.BigEndian))
    × (schema_in (slice_set metadata 105 3) ≡ Err (one fault.UnsupportedType))
    × (schema_in (slice_set metadata 140 65) ≡ Err (one fault.BadType))
unfolding number_at signed_at target_at bytes_at block_at place_of_vtable vtable_at table_at root_of slot_of number_of
    signed_of structs_of subtable_of vector_at vector_of entry_of each bool_of short_of i32_of kind_numbered kind_of
    width_of int_of type_of name_of field_encoding_of validated_fields value_type are_consistent children_of label_of
    content_of field_of entry_by child_at forest sum_from total_at total endianness_of columns_of schema_of
sample = rw (letter 107 (omega arith), letter 118 (omega arith)) (refl, refl, refl, refl, refl)

-- The table of a field with a dictionary, laid out by hand: name, nullable, Utf8, and { id 7, indices of 16 bits with a
-- sign }.
abbrev coded_field : List ℕ
coded_field =
    24 ∷ 0 ∷ 0 ∷ 0 ∷ 16 ∷ 0 ∷ 24 ∷ 0 ∷ 4 ∷ 0 ∷ 20 ∷ 0 ∷ 21 ∷ 0 ∷ 8 ∷ 0 ∷
    12 ∷ 0 ∷ 0 ∷ 0 ∷ 0 ∷ 0 ∷ 0 ∷ 0 ∷ 20 ∷ 0 ∷ 0 ∷ 0 ∷ 20 ∷ 0 ∷ 0 ∷ 0 ∷
    28 ∷ 0 ∷ 0 ∷ 0 ∷ 36 ∷ 0 ∷ 0 ∷ 0 ∷ 0 ∷ 0 ∷ 0 ∷ 0 ∷ 1 ∷ 5 ∷ 0 ∷ 0 ∷
    1 ∷ 0 ∷ 0 ∷ 0 ∷ 100 ∷ 0 ∷ 0 ∷ 0 ∷ 4 ∷ 0 ∷ 4 ∷ 0 ∷ 4 ∷ 0 ∷ 0 ∷ 0 ∷
    8 ∷ 0 ∷ 16 ∷ 0 ∷ 8 ∷ 0 ∷ 4 ∷ 0 ∷ 8 ∷ 0 ∷ 0 ∷ 0 ∷ 20 ∷ 0 ∷ 0 ∷ 0 ∷
    7 ∷ 0 ∷ 0 ∷ 0 ∷ 0 ∷ 0 ∷ 0 ∷ 0 ∷ 8 ∷ 0 ∷ 12 ∷ 0 ∷ 4 ∷ 0 ∷ 8 ∷ 0 ∷
    8 ∷ 0 ∷ 0 ∷ 0 ∷ 16 ∷ 0 ∷ 0 ∷ 0 ∷ 1 ∷ 0 ∷ 0 ∷ 0 ∷ []

abbrev field_in : List ℕ → Reading (Rose Entry)
field_in bytes = readable (root_of bytes) >>= field_of (forest 0)

abbrev coded_by_index : IndexType → Rose Entry
coded_by_index index =
    node (record {
      name = 100 ∷ [];
      nullable = true;
      stored = stored.Utf8 offset.Bits32;
      encoding = Some (record { id = pos 7; index = index });
    }) none

-- the field, the indices where no type is given for them, and the faults of a struct in a dictionary and of indices of
-- 17 bits
pub coded_sample :
    (field_in coded_field ≡ Ok (coded_by_index (record { width = int.Bits16; signed = true })))
    × (field_in (slice_set coded_field 70 0) ≡ Ok (coded_by_index (record { width = int.Bits32; signed = true })))
    × (field_in (slice_set coded_field 45 13) ≡ Err (one fault.UnsupportedType))
    × (field_in (slice_set coded_field 100 17) ≡ Err (one fault.BadType))
unfolding number_at signed_at target_at bytes_at block_at place_of_vtable vtable_at table_at root_of slot_of number_of
    signed_of structs_of subtable_of vector_at vector_of bool_of short_of i32_of kind_numbered kind_of width_of index_of
    type_of name_of id_of index_type_of dense_of encoding_of field_encoding_of children_of label_of content_of field_of
    forest
coded_sample = rw (letter 100 (omega arith)) (refl, refl, refl, refl)
