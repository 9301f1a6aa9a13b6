-- Rows that lie in batches of checked columns.
use Rattle.std.specs.Prelude.{◌≡◌, ℕ, ◌-◌, ◌<◌, ◌≤◌, All, List, length, map, take, drop}
use Rattle.std.specs.List.{flat_map}
use Rattle.values.specs.Datum.{Datum}
use Rattle.arrays.specs.Checked.{CheckedColumn}
use Rattle.schema_meta.specs.Rows.{rows_in}
use Rattle.body_writer.specs.Slots.{part}
use Rattle.body_writer.specs.Batch.{row_cells}
use Rattle.body_writer.specs.declared.from_columns.batch.Batch.{Batch}
use Rattle.body_writer.specs.declared.from_columns.batch.RowRange.{RowRange}

abbrev pub cells_in : List CheckedColumn → List (List Datum)
cells_in columns = map (λ c. c.cells) columns

abbrev pub batch_rows : Batch → List (List Datum)
batch_rows b = rows_in b.rows (cells_in b.columns.items)

abbrev pub rows_of : List Batch → List (List Datum)
rows_of bs = flat_map batch_rows bs

-- the batch has n columns, each with one cell for each row
pub record IsSized (n : ℕ) (b : Batch) : Type 0 where
  pub columns : length b.columns.items ≡ n
  pub cells : All (λ (c : CheckedColumn). length c.cells ≡ b.rows) b.columns.items

-- some rows of a batch
abbrev pub range_rows : RowRange → List (List Datum)
range_rows r = take (r.to - r.from) (drop r.from (batch_rows r.batch.now))

abbrev pub ranges_rows : List RowRange → List (List Datum)
ranges_rows rs = flat_map range_rows rs

pub record IsRange (n : ℕ) (r : RowRange) : Type 0 where
  pub sized : IsSized n r.batch.now
  pub order : r.from ≤ r.to
  pub within : r.to ≤ r.batch.now.rows

-- the rows lie within the batch, and it has column j
pub record HasColumn (j : ℕ) (r : RowRange) : Type 0 where
  pub below : j < length r.batch.now.columns.items
  pub cells : All (λ (c : CheckedColumn). length c.cells ≡ r.batch.now.rows) r.batch.now.columns.items
  pub order : r.from ≤ r.to
  pub within : r.to ≤ r.batch.now.rows

-- the cells of column j in all of them
abbrev pub column_in : ℕ → List RowRange → List Datum
column_in j rs = map (part j) (row_cells (ranges_rows rs))
