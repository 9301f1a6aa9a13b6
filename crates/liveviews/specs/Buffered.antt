-- What holds of the batches that were read from a stream.
use Rattle.std.specs.Prelude.{◌≡◌, ℕ, ◌<◌, ◌≤◌, All, List, length, Option, None, Some}
use Rattle.values.specs.Datum.{Datum}
use Rattle.values.specs.Rose.{Rose, Roses}
use Rattle.values.specs.Logical.{NamedType}
use Rattle.values.specs.declared.layout.Layout.{Layout}
use Rattle.arrays.specs.Checked.{CheckedColumn}
use Rattle.schema_meta.specs.Entry.{Entry}
use Rattle.schema_meta.specs.FieldLayouts.{layouts_of}
use Rattle.schema_meta.specs.Rows.{row_at}
use Rattle.feed.specs.Columns.{cells_in, layouts_in}
use Rattle.body_writer.specs.RowRanges.{IsSized, rows_of}
use Rattle.stream_writer.specs.Stream.{trees}
use Rattle.body_writer.specs.Batch.{row_weight}
use Rattle.stream_writer.specs.Weights.{IsLightBatch, WeighsAs}
use Rattle.liveviews.specs.declared.recasting.buffered_batches.BufferedBatches.{BufferedBatches}

abbrev pub buffered_rows : BufferedBatches → List (List Datum)
buffered_rows t = rows_of t.batches.items

abbrev pub IsCounted : BufferedBatches → Type 0
IsCounted t = t.rows ≡ length (buffered_rows t)

-- each batch has n columns, which weigh as these layouts, and no row is too heavy, or heavier than `heaviest`
pub record IsBuffered (n : ℕ) (ls : Roses Layout) (t : BufferedBatches) : Type 0 where
  pub sized : All (IsSized n) t.batches.items
  pub fit : All IsLightBatch t.batches.items
  pub alike : All (WeighsAs ls) t.batches.items
  pub light : All (λ (row : List Datum). row_weight ls row ≤ t.heaviest) (buffered_rows t)

abbrev pub IsBufferedSo : Option (List (Rose Entry)) → BufferedBatches → Type 0
IsBufferedSo None t = Unit {0}
IsBufferedSo (Some fields) t = IsBuffered (length fields) (layouts_of fields) t

abbrev pub IsWritable : List (Rose NamedType) → BufferedBatches → Type 0
IsWritable fields t = IsBuffered (length fields) (trees fields) t
