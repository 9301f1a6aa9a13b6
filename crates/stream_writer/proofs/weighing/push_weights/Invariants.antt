use Rattle.std.proofs.Common.{◌≡◌, ◌++◌, ◌-◌}
use Rattle.schema_meta.specs.Rows.{rows_from, rows_in}
use Rattle.body_writer.specs.RowRanges.{cells_in}
use Rattle.body_writer.specs.Heavy.{layouts_in}
use Rattle.stream_writer.specs.Weights.{weights_of}
use Rattle.stream_writer.proofs.weighing.push_weights.Given as goal

abbrev pub invariant-loop-index : goal.invariant-loop-index
invariant-loop-index l =
    l.weights.items ++ weights_of (layouts_in l.columns) (rows_from (cells_in l.columns) l.index (l.count - l.index))
    ≡ l.initial.weights.items ++ weights_of (layouts_in l.columns) (rows_in l.count (cells_in l.columns))
