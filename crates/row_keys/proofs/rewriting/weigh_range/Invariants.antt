use Rattle.std.proofs.Common.{◌-◌}
use Rattle.values.specs.Rose.{kids_of}
use Rattle.schema_meta.specs.Rows.{rows_from}
use Rattle.body_writer.specs.Batch.{rows_weight}
use Rattle.body_writer.specs.RowRanges.{cells_in, range_rows}
use Rattle.row_keys.proofs.Weighed.{WeighedTo}
use Rattle.row_keys.proofs.rewriting.weigh_range.Given as goal

abbrev pub invariant-loop-index : goal.invariant-loop-index
invariant-loop-index l =
    WeighedTo (rows_weight (kids_of l.layouts) (range_rows l.range)) l.sum
    (rows_weight (kids_of l.layouts)
    (rows_from (cells_in l.range.batch.now.columns.items) l.index (l.range.to - l.index)))
