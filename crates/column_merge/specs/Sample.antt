-- Batches of one column of bytes, as the tests merge them.
use Rattle.std.specs.Prelude.{◌≡◌, ℕ, ◌≤◌, All, List, false}
use Rattle.values.specs.Datum.{Datum, items_of}
use Rattle.values.specs.Rose.{Rose, node, Roses, none, more}
use Rattle.values.specs.declared.layout.IntWidth.TheVariants as width
use Rattle.values.specs.declared.layout.Layout.{Layout}
use Rattle.values.specs.declared.layout.Layout.TheVariants.{Int}
use Rattle.values.specs.Layouts.{HoldsEach}
use Rattle.body_writer.specs.Batch.{row_weight}
use Rattle.body_writer.specs.RowRanges.{IsSized, batch_rows}
use Rattle.body_writer.specs.declared.from_columns.batch.Batch.{Batch}

abbrev pub byte_layout : Rose Layout
byte_layout = node (Int width.Bits8 false) none

abbrev pub byte_layouts : Roses Layout
byte_layouts = more byte_layout none

-- a row of one byte, or of a null
abbrev pub IsByteRow : List Datum → Type 0
IsByteRow row = HoldsEach byte_layouts (items_of row) × (row_weight byte_layouts row ≤ 2)

-- n rows of a byte
pub record AreBytes (n : ℕ) (b : Batch) : Type 0 where
  pub rows : b.rows ≡ n
  pub sized : IsSized 1 b
  pub bytes : All IsByteRow (batch_rows b)
