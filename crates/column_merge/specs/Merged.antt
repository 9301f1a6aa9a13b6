-- Rows that are written as the body of a batch, and read again.
use Rattle.std.specs.Prelude.{◌≡◌, ◌≤◌, All, List, Ok, length}
use Rattle.values.specs.Datum.{Datum}
use Rattle.values.specs.Rose.{Roses, roses_size}
use Rattle.values.specs.declared.layout.Layout.{Layout}
use Rattle.array_layout.specs.declared.array.ArrayData.{ArrayData}
use Rattle.array_layout.specs.Placing.{placed_all, ranges_below}
use Rattle.array_layout.specs.Sound.{ArePlaced}
use Rattle.schema_meta.specs.Rows.{columns_in, rows_in}
use Rattle.body_writer.specs.Batch.{IsBatch, body_bytes, body_nodes, body_ranges}

-- the arrays of the columns that are written for these rows
abbrev pub arrays_for : Roses Layout → List (List Datum) → Roses ArrayData
arrays_for ls rows = placed_all (body_nodes ls rows) (body_ranges ls rows) 0 0 ls

-- They have as many nodes and buffers as they require, which lie in the body, and these rows are read from them, in
-- order, without a fault.
pub record IsWritten (ls : Roses Layout) (rows : List (List Datum)) : Type 0 where
  pub nodes : roses_size ls ≤ length (body_nodes ls rows)
  pub ranges : ranges_below ls ≤ length (body_ranges ls rows)
  pub placed : ArePlaced (body_bytes ls rows) (arrays_for ls rows)
  pub cells : List (List Datum)
  pub read : columns_in (body_bytes ls rows) (arrays_for ls rows) ≡ Ok cells
  pub long : All (λ (c : List Datum). length c ≡ length rows) cells
  pub rows_are : rows_in (length rows) cells ≡ rows

abbrev pub WrittenLaw : Type 0
WrittenLaw = (ls : Roses Layout) (rows : List (List Datum)) → IsBatch ls rows → IsWritten ls rows
