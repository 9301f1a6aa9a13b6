-- Rows that lie at single locations in batches, of which some columns are written.
use Rattle.std.specs.Prelude.{◌≡◌, ℕ, ◌^◌, ◌<◌, ◌≤◌, List, Some, length, slice_get}
use denote.Ref.{Bor}
use Rattle.values.specs.Datum.{Datum}
use Rattle.values.specs.Layouts.{null_weight}
use Rattle.values.specs.Rose.{Rose, kids_of}
use Rattle.values.specs.declared.layout.Layout.{Layout}
use Rattle.arrays.specs.Checked.{CheckedColumn}
use Rattle.body_writer.specs.Picked.{picked_rows}
use Rattle.body_writer.specs.declared.from_columns.batch.Batch.{Batch}
use Rattle.stream_writer.specs.BatchRows.{AreLightRows}
use Rattle.stream_writer.specs.JoinedRows.{AreArrays, HaveJoined, joined_rows}
use Rattle.stream_writer.specs.RangeBounds.{BoundsCells}
use Rattle.stream_writer.specs.declared.locate_rows.PlaceRows.{PlaceRows}

-- the cells of the rows in the columns that are written
abbrev pub placed_left : PlaceRows → List (List Datum)
placed_left r = picked_rows r.columns.now (joined_rows r.rows)

pub record FitsLocations (ls : List (Rose Layout)) (r : PlaceRows) : Type 0 where
  pub many : length r.columns.now ≡ length ls
  pub arrays : AreArrays r.rows r.columns.now r.arrays.now
  pub have : HaveJoined r.columns.now r.rows
  pub light : AreLightRows (kids_of ls) (placed_left r)
  pub small : length r.rows.main.locations.now < 2 ^ 32

-- None of the cells in column j of the batch is heavier than this as a value of this layout.
abbrev pub BoundsBatch : Rose Layout → ℕ → Batch → ℕ → Type 0
BoundsBatch t j b most = (c : CheckedColumn) → slice_get b.columns.items j ≡ Some c
    → BoundsCells t c 0 (length c.cells) most

-- nor of these batches, nor is a null
pub record BoundsColumn (t : Rose Layout) (j : ℕ) (bs : List (Bor Batch)) (most : ℕ) : Type 0 where
  pub each : (k : ℕ) (b : Bor Batch) → slice_get bs k ≡ Some b → BoundsBatch t j b.now most
  pub null : null_weight t ≤ most
