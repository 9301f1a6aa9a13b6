-- The canonical stream of a table.
--
-- Arrow Columnar Format, "IPC Streaming Format": the Schema message, record batches, the end mark. A batch is the
-- longest prefix of the remaining rows with at most 1,024 rows and a summed weight of at most 2^27. There is no batch
-- for an empty table.
use Rattle.std.specs.Prelude.{ℕ, zero, suc, ◌+◌, ◌-◌, nat_le, if◌then◌else◌, List, [], ◌∷◌, ◌++◌, length, take, drop}
use Rattle.std.specs.List.{flat_map}
use Rattle.byteorder.specs.Endian.{little_bytes}
use Rattle.values.specs.Limits.{max_batch_rows, max_batch_weight}
use Rattle.values.specs.Datum.{Datum}
use Rattle.values.specs.Rose.{Rose, Roses, kids_of}
use Rattle.values.specs.declared.layout.Layout.{Layout}
use Rattle.values.specs.Logical.{NamedType, trees_of}
use Rattle.schema_meta.specs.SchemaTree.{schema_metadata}
use Rattle.body_writer.specs.Batch.{body_bytes, row_weight}
use Rattle.body_writer.specs.declared.body.Body.{Body}
use Rattle.stream_writer.specs.Batch.{batch_metadata, batch_whole}
use Rattle.stream_writer.specs.Coding.{indexed_layouts, indexed_rows, values_at}
use Rattle.stream_writer.specs.DictionaryBatch.{dictionary_metadata, dictionary_whole, values_body}

-- "Encapsulated message format": the continuation, the metadata's size, the metadata, the body
abbrev pub message : List ℕ → List ℕ → List ℕ
message metadata body = (255 ∷ 255 ∷ 255 ∷ 255 ∷ []) ++ (little_bytes 4 (length metadata) ++ (metadata ++ body))

-- the messages with this body: of a batch of n rows, and of a dictionary of n values
abbrev pub batch_with : ℕ → Body → List ℕ
batch_with rows b =
    message (batch_whole rows b.nodes.items b.ranges.items (length b.bytes.items)) b.bytes.items

abbrev pub dictionary_with : ℕ → ℕ → Body → List ℕ
dictionary_with id count b =
    message (dictionary_whole id count b.nodes.items b.ranges.items (length b.bytes.items)) b.bytes.items

-- the continuation mark, and a metadata size of 0
abbrev pub end_mark : List ℕ
end_mark = 255 ∷ 255 ∷ 255 ∷ 255 ∷ 0 ∷ 0 ∷ 0 ∷ 0 ∷ []

-- the Schema message, which has no body; the columns at some positions are coded
unfoldable pub schema_message : List ℕ → List (Rose NamedType) → List ℕ
schema_message coded fs = message (schema_metadata coded fs) []

-- the RecordBatch message of these rows
unfoldable pub batch_message : Roses Layout → List (List Datum) → List ℕ
batch_message ls rows = message (batch_metadata ls rows) (body_bytes ls rows)

-- the DictionaryBatch message of this id and these values
unfoldable pub dictionary_message : ℕ → List (List ℕ) → List ℕ
dictionary_message id values = message (dictionary_metadata id values) (values_body values)

-- the dictionaries of the coded columns for a batch of these rows, in order of columns
abbrev pub dictionary_messages : List ℕ → List (List Datum) → List ℕ
dictionary_messages coded rows = flat_map (λ j. dictionary_message j (values_at j rows)) coded

-- a batch of these rows: its dictionaries, and the record batch with indices in the coded columns
unfoldable pub batch_messages : List ℕ → Roses Layout → List (List Datum) → List ℕ
batch_messages coded ls rows =
    dictionary_messages coded rows ++ batch_message (indexed_layouts coded 0 ls) (indexed_rows coded rows)

-- how many rows the longest prefix has, of at most n rows and a weight of at most `room`
abbrev pub beginning : Roses Layout → ℕ → ℕ → List (List Datum) → ℕ
beginning ls zero room rows = 0
beginning ls (suc n) room [] = 0
beginning ls (suc n) room (row ∷ rows) =
    if nat_le (row_weight ls row) room then 1 + beginning ls n (room - row_weight ls row) rows else 0

-- how many rows the next batch has
unfoldable pub batch_len : Roses Layout → List (List Datum) → ℕ
batch_len ls rows = beginning ls max_batch_rows max_batch_weight rows

-- the batches of these rows, at most n of them
unfoldable pub batches : List ℕ → Roses Layout → ℕ → List (List Datum) → List ℕ
batches coded ls zero rows = []
batches coded ls (suc most) [] = []
batches coded ls (suc most) (row ∷ rows) =
    batch_messages coded ls (take (batch_len ls (row ∷ rows)) (row ∷ rows))
    ++ batches coded ls most (drop (batch_len ls (row ∷ rows)) (row ∷ rows))

-- the layouts of the columns
abbrev pub trees : List (Rose NamedType) → Roses Layout
trees fs = trees_of (kids_of fs)

-- the canonical stream of a table with these columns and rows, where the columns at some positions are coded
unfoldable pub coded_canon : List (Rose NamedType) → List ℕ → List (List Datum) → List ℕ
coded_canon fs coded rows = schema_message coded fs ++ (batches coded (trees fs) (length rows) rows ++ end_mark)

-- the canonical stream of a table with these columns and rows
abbrev pub canon : List (Rose NamedType) → List (List Datum) → List ℕ
canon fs rows = coded_canon fs [] rows
