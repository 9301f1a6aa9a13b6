use Rattle.std.proofs.Common.{◌≡◌, ◌++◌, ◌-◌}
use Rattle.std.specs.Prelude.{map}
use Rattle.schema_meta.specs.Rows.{rows_from}
use Rattle.body_writer.specs.RowRanges.{cells_in, range_rows}
use Rattle.body_writer.specs.Picked.{picked_rows}
use Rattle.stream_writer.proofs.range_copies.push_rows.Given as goal

abbrev pub invariant-loop-index : goal.invariant-loop-index
invariant-loop-index l =
    map (λ row. row.items) l.rows.items
    ++ picked_rows l.columns (rows_from (cells_in l.range.batch.now.columns.items) l.index (l.range.to - l.index))
    ≡ map (λ row. row.items) l.fn.rows.items ++ picked_rows l.columns (range_rows l.range)
