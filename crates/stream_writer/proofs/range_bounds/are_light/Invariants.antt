use Rattle.std.proofs.Common.{All, take}
use Rattle.values.specs.Rose.{kids_of}
use Rattle.body_writer.specs.RowRanges.{range_rows}
use Rattle.body_writer.specs.Picked.{picked_rows}
use Rattle.stream_writer.specs.BatchRows.{AreLightRows}
use Rattle.stream_writer.proofs.range_bounds.are_light.Given as goal

abbrev pub invariant-loop-range : goal.invariant-loop-range
invariant-loop-range l =
    All (λ r. AreLightRows (kids_of l.layouts) (picked_rows l.columns (range_rows r))) (take l.range-index l.ranges)
