use Rattle.std.proofs.Common.{◌≡◌, ◌++◌, drop}
use Rattle.schema_meta.specs.Rows.{row_at}
use Rattle.row_keys.specs.Batches.{cells_in}
use Rattle.row_keys.proofs.RowCells.{Leads}
use Rattle.row_keys.proofs.batches.read_row.Given as goal

abbrev pub invariant-loop-column : goal.invariant-loop-column
invariant-loop-column l =
    (l.row.items ++ row_at (cells_in (drop l.column-index l.columns)) l.index ≡ row_at (cells_in l.columns) l.index)
    × Leads l.row.items (drop l.column-index l.columns) l.columns
