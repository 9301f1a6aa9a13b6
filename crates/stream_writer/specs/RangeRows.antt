-- Rows that lie in ranges of batches, of which some columns are written.
use Rattle.std.specs.Prelude.{◌≡◌, ℕ, ◌+◌, ◌^◌, ◌<◌, All, List, drop, length}
use Rattle.values.specs.Datum.{Datum, items_of}
use Rattle.values.specs.Layouts.{HoldsEach}
use Rattle.values.specs.Rose.{Rose, Roses, kids_of}
use Rattle.values.specs.declared.layout.Layout.{Layout}
use Rattle.body_writer.specs.RowRanges.{ranges_rows}
use Rattle.body_writer.specs.Picked.{HaveColumns, picked_rows}
use Rattle.stream_writer.specs.BatchRows.{AreLightRows}
use Rattle.stream_writer.specs.declared.range_rows.RangeRows.{RangeRows}

-- the remaining rows, of all columns
abbrev pub whole_left : RangeRows → List (List Datum)
whole_left r = drop r.from (ranges_rows r.ranges.now)

-- the same with the columns that are written
abbrev pub picked_left : RangeRows → List (List Datum)
picked_left r = picked_rows r.columns.now (whole_left r)

pub record FitsRanges (ls : List (Rose Layout)) (r : RangeRows) : Type 0 where
  pub many : length r.columns.now ≡ length ls
  pub width : ℕ
  pub have : HaveColumns width r.columns.now r.ranges.now
  pub light : AreLightRows (kids_of ls) (picked_left r)
  pub left : r.left ≡ length (picked_left r)
  pub small : r.from + r.left < 2 ^ 32

-- The layouts hold each row's cells.
abbrev pub HoldRows : Roses Layout → List (List Datum) → Type 0
HoldRows ls rows = All (λ (row : List Datum). HoldsEach ls (items_of row)) rows
