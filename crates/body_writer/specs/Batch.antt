-- The body of a record batch (Arrow Columnar Format, "RecordBatch message"): its columns are laid out as the children
-- of a struct whose cells are the rows.
use Rattle.std.specs.Prelude.{ℕ, ◌+◌, ◌≤◌, All, List, [], ◌∷◌, length, map}
use Rattle.values.specs.Limits.{max_fields, max_batch_rows, max_batch_weight}
use Rattle.values.specs.Rose.{Roses, roses_size}
use Rattle.values.specs.Datum.{Datum, structure, items_of}
use Rattle.values.specs.declared.layout.Layout.{Layout}
use Rattle.values.specs.declared.layout.Layout.TheVariants.{Struct}
use Rattle.values.specs.Layouts.{AreLayouts, HoldsEach, row_weight as weight_beside}
use Rattle.array_layout.specs.declared.array.FieldNode.{FieldNode}
use Rattle.array_layout.specs.declared.array.BufferRange.{BufferRange}
use Rattle.body_writer.specs.Body.{laid, ranges_from}
use Rattle.body_writer.specs.Columns.{buffers_below, nodes_below}

-- a row as the cell of a struct
abbrev pub row_cell : List Datum → Datum
row_cell row = structure (items_of row)

abbrev pub row_cells : List (List Datum) → List Datum
row_cells rows = map row_cell rows

-- the field nodes of the body of a batch of these rows
unfoldable pub body_nodes : Roses Layout → List (List Datum) → List FieldNode
body_nodes ls rows = nodes_below Struct 0 ls (row_cells rows)

-- its buffers
unfoldable pub body_buffers : Roses Layout → List (List Datum) → List (List ℕ)
body_buffers ls rows = buffers_below Struct 0 ls (row_cells rows)

-- where its buffers lie
unfoldable pub body_ranges : Roses Layout → List (List Datum) → List BufferRange
body_ranges ls rows = ranges_from 0 (body_buffers ls rows)

-- its bytes
unfoldable pub body_bytes : Roses Layout → List (List Datum) → List ℕ
body_bytes ls rows = laid (body_buffers ls rows)

-- what a row weighs: the sum of its cells
abbrev pub row_weight : Roses Layout → List Datum → ℕ
row_weight ls row = weight_beside ls (items_of row)

abbrev pub rows_weight : Roses Layout → List (List Datum) → ℕ
rows_weight ls [] = 0
rows_weight ls (r ∷ rs) = row_weight ls r + rows_weight ls rs

-- few and light enough rows for one batch, whose cells are of their columns' layouts
pub record IsBatch (ls : Roses Layout) (rows : List (List Datum)) : Type 0 where
  pub few : length rows ≤ max_batch_rows
  pub held : All (λ row. HoldsEach ls (items_of row)) rows
  pub narrow : roses_size ls ≤ max_fields
  pub layouts : AreLayouts ls
  pub light : rows_weight ls rows ≤ max_batch_weight
