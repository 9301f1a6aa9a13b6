-- Rows at single locations in batches of checked columns, and the arrays in which their cells lie.
use Rattle.std.specs.Prelude.{◌≡◌, ℕ, ◌<◌, ◌≤◌, All, List, [], None, Ok, Option, Some, get_or, length, map, slice_get, slice_index, true}
use denote.Ref.{Bor}
use Rattle.values.specs.Datum.{Datum, null}
use Rattle.values.specs.Rose.{Rose, Roses, node}
use Rattle.values.specs.declared.layout.Layout.{Layout}
use Rattle.values.specs.declared.layout.Layout.TheVariants.{Utf8, Binary, List as Listed, Struct}
use Rattle.array_layout.specs.Placing.{bytes_of}
use Rattle.array_layout.specs.Cells.{cell, cells}
use Rattle.arrays.specs.Checked.{CheckedColumn}
use Rattle.schema_meta.specs.Rows.{row_at}
use Rattle.body_writer.specs.Batch.{IsBatch, row_cells}
use Rattle.body_writer.specs.Slots.{part}
use Rattle.body_writer.specs.Runs.{cell_in}
use Rattle.body_writer.specs.Segments.{HasLayout, array_of}
use Rattle.body_writer.specs.RowRanges.{IsSized, cells_in}
use Rattle.body_writer.specs.declared.from_columns.batch.Batch.{Batch}
use Rattle.body_writer.specs.declared.from_locations.plain.BatchArrays.{BatchArrays}
use Rattle.body_writer.specs.declared.from_locations.plain.PlainArray.{PlainArray}
use Rattle.body_writer.specs.declared.from_locations.location.LocatedRows.{LocatedRows}
use Rattle.body_writer.specs.declared.from_locations.location.RowLocation.{RowLocation}
use Rattle.body_writer.specs.declared.from_locations.write.LocatedColumn.{LocatedColumn}

-- row i of a batch; one without cells where there is no batch
abbrev pub row_in : Option (Bor Batch) → ℕ → List Datum
row_in None i = []
row_in (Some b) i = row_at (cells_in b.now.columns.items) i

abbrev pub located_row : List (Bor Batch) → RowLocation → List Datum
located_row bs p = row_in (slice_get bs p.batch) p.row

abbrev pub located_rows : List (Bor Batch) → List RowLocation → List (List Datum)
located_rows bs ps = map (located_row bs) ps

abbrev pub rows_at : LocatedRows → List (List Datum)
rows_at r = located_rows r.batches.now r.locations.now

-- There is row i in a batch of n columns.
pub record HasRow (n i : ℕ) (b : Batch) : Type 0 where
  pub sized : IsSized n b
  pub within : i < b.rows

-- If there is such a batch, there is such a row, in n columns.
abbrev pub IsLocated : ℕ → List (Bor Batch) → RowLocation → Type 0
IsLocated n bs p = (b : Bor Batch) → slice_get bs p.batch ≡ Some b → HasRow n p.row b.now

abbrev pub AreLocated : ℕ → LocatedRows → Type 0
AreLocated n r = All (IsLocated n r.batches.now) r.locations.now

-- There are such a batch and such a row.
pub record IsRowAt (n : ℕ) (bs : List (Bor Batch)) (p : RowLocation) : Type 0 where
  pub batch : Bor Batch
  pub there : slice_get bs p.batch ≡ Some batch
  pub row : HasRow n p.row batch.now

-- The rows lie in batches that have column j.
pub record HaveCells (j : ℕ) (bs : List (Bor Batch)) (ps : List RowLocation) : Type 0 where
  pub width : ℕ
  pub below : j < width
  pub placed : All (IsLocated width bs) ps

abbrev pub HaveColumn : ℕ → LocatedRows → Type 0
HaveColumn j r = HaveCells j r.batches.now r.locations.now

-- the cells of column j in all of them

abbrev pub cells_at : ℕ → List (Bor Batch) → List RowLocation → List Datum
cells_at j bs ps = map (part j) (row_cells (located_rows bs ps))

abbrev pub column_at : ℕ → LocatedRows → List Datum
column_at j r = cells_at j r.batches.now r.locations.now

-- what slot i of an array without a dictionary holds
abbrev pub array_cell : PlainArray → ℕ → Datum
array_cell a i = cell_in (cell a.slots.parts.body.now (array_of a.slots.parts) i)

-- the same; null where there is no array
abbrev pub cell_there : Option (Option PlainArray) → ℕ → Datum
cell_there (Some (Some a)) i = array_cell a i
cell_there _ i = null

abbrev pub located_cell : List (Option PlainArray) → RowLocation → Datum
located_cell xs p = cell_there (slice_get xs p.batch) p.row

abbrev pub located_cells : List (Option PlainArray) → List RowLocation → List Datum
located_cells xs ps = map (located_cell xs) ps

-- All slots of an array without a dictionary, which is of this layout but for the width of offsets; with its buffers.
pub record IsPlain (l : Layout) (a : PlainArray) : Type 0 where
  pub own : HasLayout l a.slots
  pub whole : a.slots.from ≡ 0
  pub bits : a.bits.now ≡ bytes_of a.slots.parts.body.now a.slots.parts.own.now.validity
  pub offsets : a.offsets.now ≡ bytes_of a.slots.parts.body.now a.slots.parts.own.now.offsets
  pub values : a.values.now ≡ bytes_of a.slots.parts.body.now a.slots.parts.own.now.values
  pub small : (n : ℕ) → slice_index a.values.now n < 256

-- slot i of such an array
pub record IsSlot (l : Layout) (a : PlainArray) (i : ℕ) : Type 0 where
  pub plain : IsPlain l a
  pub below : i < a.slots.to

-- slot i of such an array holds this
pub record IsSlotAt (l : Layout) (a : PlainArray) (i : ℕ) (d : Datum) : Type 0 where
  pub slot : IsSlot l a i
  pub holds : array_cell a i ≡ d

-- the layout of an array itself
abbrev pub layout_of : Rose Layout → Layout
layout_of (node l kids) = l

-- a layout without children
abbrev pub IsLeaf : Layout → Type 0
IsLeaf (Listed o) = ⊥
IsLeaf Struct = ⊥
IsLeaf l = Unit {0}

-- a layout of texts or of bytes
abbrev pub IsTexts : Layout → Type 0
IsTexts (Utf8 o) = Unit {0}
IsTexts (Binary o) = Unit {0}
IsTexts l = ⊥

pub record HasText (l : Layout) (a : PlainArray) (i : ℕ) : Type 0 where
  pub slot : IsSlot l a i
  pub texts : IsTexts l

-- The slot at this location is one of such an array, if there is an array.
abbrev pub Fits : Layout → List (Option PlainArray) → RowLocation → Type 0
Fits l xs p = (a : PlainArray) → slice_get xs p.batch ≡ Some (Some a) → IsSlot l a p.row

-- Such an array has these cells.
pub record HasCells (l : Layout) (ds : List Datum) (a : PlainArray) : Type 0 where
  pub plain : IsPlain l a
  pub all : a.slots.to ≡ a.slots.parts.own.now.len
  pub cells_are : cells a.slots.parts.body.now (array_of a.slots.parts) ≡ Ok ds

abbrev pub HasCellsAt : Layout → List Datum → Option (Option PlainArray) → Type 0
HasCellsAt l ds (Some (Some a)) = HasCells l ds a
HasCellsAt l ds _ = ⊥

-- The arrays are those of column j of the batches, for each batch that has it.
abbrev pub ArePlain : Layout → ℕ → List (Bor Batch) → List (Option PlainArray) → Type 0
ArePlain l j bs xs = (k : ℕ) (b : Bor Batch) (c : CheckedColumn) → slice_get bs k ≡ Some b
    → slice_get b.now.columns.items j ≡ Some c → HasCellsAt l c.cells (slice_get xs k)

-- They are plain, as it is said, and have this layout, which has no children.
pub record IsReady (t : Rose Layout) (s : BatchArrays) : Type 0 where
  pub plain : s.is_plain ≡ true
  pub layout : s.layout ≡ layout_of t
  pub leaf : IsLeaf s.layout

-- They are the arrays of the batches if they are said to be plain; otherwise there are none.
pub record AreFound (bs : List (Bor Batch)) (s : BatchArrays) : Type 0 where
  pub plain : s.is_plain ≡ true → ArePlain s.layout s.column bs s.arrays.items
  pub few : length s.arrays.items ≤ length bs

-- The arrays are those of the batches in which the rows lie.
pub record IsWritable (c : LocatedColumn) : Type 0 where
  pub found : AreFound c.rows.batches.now c.arrays.now
  pub have : HaveColumn c.arrays.now.column c.rows

abbrev pub column_cells : LocatedColumn → List Datum
column_cells c = column_at c.arrays.now.column c.rows

-- The cells of these rows are those of the columns, one by one.
abbrev pub AreRowsOf : List LocatedColumn → List (List Datum) → Type 0
AreRowsOf cs rows = (j : ℕ) (c : LocatedColumn) → j < length cs → c ≡ get_or cs j c
    → map (part j) (row_cells rows) ≡ column_cells c

-- and they can be a batch
pub record MakeBatch (ls : Roses Layout) (cs : List LocatedColumn) (rows : List (List Datum)) : Type 0 where
  pub cells : AreRowsOf cs rows
  pub batch : IsBatch ls rows
