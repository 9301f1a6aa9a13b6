use Rattle.std.proofs.Common.{◌≡◌, take}
use Rattle.schema_meta.specs.Rows.{row_at}
use Rattle.body_writer.specs.RowRanges.{cells_in}
use Rattle.body_writer.specs.Picked.{picked}
use Rattle.stream_writer.proofs.range_copies.copy_row.Given as goal

abbrev pub invariant-loop-column : goal.invariant-loop-column
invariant-loop-column l =
    l.row.items ≡ picked (take l.column-index l.columns) (row_at (cells_in l.cells) l.index)
