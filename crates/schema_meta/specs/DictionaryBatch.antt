-- The header of a dictionary batch: Message.fbs, `DictionaryBatch`. Its record batch has one column, of the values.
use Rattle.std.specs.Prelude.{ℕ, ℤ, Bool, ◌+◌, List, unwrap_or, if◌then◌else◌, nat_le}
use Rattle.std.specs.Map.{lookup}
use Rattle.std.specs.Ordering.{int_eq}
use Rattle.indexmap.specs.IndexMap.{insert_entry}
use Rattle.flatbuf.specs.Layout.{Table, subtable_of}
use Rattle.values.specs.Limits.{max_dictionary_values}
use Rattle.values.specs.declared.faults.StreamFault.TheVariants as fault
use Rattle.values.specs.declared.layout.Layout.{Layout}
use Rattle.values.specs.Reading.{Reading, ◌>>=◌, both, must}
use Rattle.values.specs.Rose.{Rose, node, Roses, none, more}
use Rattle.field_types.specs.Reads.{bool_of, checked, long_of, readable}
use Rattle.values.specs.ColTypes.{layout_of as layout_by}
use Rattle.values.specs.declared.col_type.ColType.{ColType}
use Rattle.schema_meta.specs.Entry.{Entry}
use Rattle.schema_meta.specs.Dictionaries.{value_type}
use Rattle.schema_meta.specs.declared.header.DictionaryHeader.{DictionaryHeader}
use Rattle.schema_meta.specs.declared.header.Header.{Header}
use Rattle.schema_meta.specs.declared.header.Header.TheVariants as header
use Rattle.schema_meta.specs.BatchHead.{BatchHead}
use Rattle.schema_meta.specs.Batch.{batch_of}
use Rattle.schema_meta.specs.MessageFbs as fbs

-- the layout of values of this type in the body of a dictionary batch
abbrev pub value_layout : ColType → Rose Layout
value_layout s = node (layout_by s) none

abbrev pub value_layouts : ColType → Roses Layout
value_layouts s = more (value_layout s) none

-- how many values the dictionary with this id has, none where it had no batch
abbrev pub count_of : List (ℤ × ℕ) → ℤ → ℕ
count_of counts id = unwrap_or (lookup (int_eq id) counts) 0

-- how many it has after a batch: a delta adds to those that are there
abbrev pub count_after : List (ℤ × ℕ) → ℤ → Bool → ℕ → ℕ
count_after counts id is_delta rows = (if is_delta then count_of counts id else 0) + rows

abbrev pub counts_after : List (ℤ × ℕ) → Header → List (ℤ × ℕ)
counts_after counts header.Schema = counts
counts_after counts (header.Dictionary d) =
    insert_entry int_eq counts d.id (count_after counts d.id d.is_delta d.batch.rows)
counts_after counts (header.Batch b) = counts
counts_after counts header.End = counts

abbrev pub dictionary : ℤ → Bool → BatchHead → DictionaryHeader
dictionary id is_delta batch = record { id = id; is_delta = is_delta; batch = batch }

-- an absent id is 0
unfoldable pub id_of : Table → Reading ℤ
id_of t = long_of t fbs.dictionary_id

-- the table of its record batch, which must be there
unfoldable pub data_of : Table → Reading Table
data_of t = readable (subtable_of t fbs.batch_data) >>= must fault.BadTable

-- A dictionary has at most 2^20 values.
abbrev pub limited : List (ℤ × ℕ) → DictionaryHeader → Reading DictionaryHeader
limited counts d =
    checked fault.DictionaryTooLarge (nat_le (count_after counts d.id d.is_delta d.batch.rows) max_dictionary_values) d

-- the header of a batch of values of this type
unfoldable pub values_batch : ℕ → Table → ℤ → ColType → Reading DictionaryHeader
values_batch body t id s = both (dictionary id) (bool_of t fbs.is_delta) (data_of t >>= batch_of (value_layouts s) body)

-- The id must be that of a field.
unfoldable pub dictionary_of : List (Rose Entry) → List (ℤ × ℕ) → ℕ → Table → Reading DictionaryHeader
dictionary_of fields counts body t = do
  id ← id_of t
  s ← must fault.UnknownDictionary (value_type fields id)
  d ← values_batch body t id s
  limited counts d
