-- The header that is written of a batch is read back.
use Rattle.std.specs.Prelude.{◌≡◌, ℕ, List, [], Some, Ok, length}
use Rattle.values.specs.Rose.{Rose, Roses}
use Rattle.values.specs.declared.layout.Layout.{Layout}
use Rattle.values.specs.Coded.{AreCoded}
use Rattle.values.specs.Datum.{Datum}
use Rattle.values.specs.Logical.{NamedType}
use Rattle.schema_meta.specs.BatchHead.{BatchHead}
use Rattle.schema_meta.specs.SchemaLaw.{coded_fields, stored_fields}
use Rattle.schema_meta.specs.Stage.{Known}
use Rattle.schema_meta.specs.Message.{brings_batch, meta_of}
use Rattle.body_writer.specs.Batch.{IsBatch, body_bytes, body_nodes, body_ranges}
use Rattle.stream_writer.specs.Batch.{batch_metadata}
use Rattle.stream_writer.specs.Coding.{indexed_layouts, indexed_rows}
use Rattle.stream_writer.specs.Stream.{batch_message, batch_messages, trees}

-- the header of the batch of these rows, whose columns have these layouts
abbrev pub head_by : Roses Layout → List (List Datum) → BatchHead
head_by ls rows = record { rows = length rows; nodes = body_nodes ls rows; ranges = body_ranges ls rows }

abbrev pub head : List (Rose NamedType) → List (List Datum) → BatchHead
head fs rows = head_by (trees fs) rows

-- the header where the columns at some positions are coded
abbrev pub coded_head : List (Rose NamedType) → List ℕ → List (List Datum) → BatchHead
coded_head fs coded rows = head_by (indexed_layouts coded 0 (trees fs)) (indexed_rows coded rows)

-- Where the schema is known, the metadata of a batch is read as its rows, nodes and buffer ranges, and the length
-- of its body.
abbrev pub BatchLaw : Type 0
BatchLaw =
    (known : Known) (fs : List (Rose NamedType)) (rows : List (List Datum)) → IsBatch (trees fs) rows
    → known.schema ≡ Some (stored_fields fs)
    → meta_of known (batch_metadata (trees fs) rows) ≡ Ok
    (brings_batch (length (body_bytes (trees fs) rows)) (head fs rows))

-- the same of a batch with coded columns
abbrev pub CodedBatchLaw : Type 0
CodedBatchLaw =
    (known : Known) (fs : List (Rose NamedType)) (coded : List ℕ) (rows : List (List Datum)) → IsBatch (trees fs) rows
    → AreCoded coded fs → known.schema ≡ Some (coded_fields coded fs)
    → meta_of known (batch_metadata (indexed_layouts coded 0 (trees fs)) (indexed_rows coded rows)) ≡ Ok
    (brings_batch (length (body_bytes (indexed_layouts coded 0 (trees fs)) (indexed_rows coded rows)))
    (coded_head fs coded rows))

-- Where no column is coded, a batch is its record batch alone.
abbrev pub NoneCodedBatch : Type 0
NoneCodedBatch = (ls : Roses Layout) (rows : List (List Datum)) → batch_messages [] ls rows ≡ batch_message ls rows
