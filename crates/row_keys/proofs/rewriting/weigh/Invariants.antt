use Rattle.std.proofs.Common.{drop}
use Rattle.values.specs.Rose.{kids_of}
use Rattle.body_writer.specs.Batch.{rows_weight}
use Rattle.body_writer.specs.RowRanges.{ranges_rows}
use Rattle.row_keys.proofs.Weighed.{WeighedTo}
use Rattle.row_keys.proofs.rewriting.weigh.Given as goal

abbrev pub invariant-loop-range : goal.invariant-loop-range
invariant-loop-range l =
    WeighedTo (rows_weight (kids_of l.layouts) (ranges_rows l.ranges)) l.sum
    (rows_weight (kids_of l.layouts) (ranges_rows (drop l.range-index l.ranges)))
