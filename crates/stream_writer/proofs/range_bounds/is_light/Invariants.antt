use Rattle.std.proofs.Common.{◌≤◌, drop}
use Rattle.values.specs.Rose.{kids_of}
use Rattle.body_writer.specs.RowRanges.{cells_in}
use Rattle.stream_writer.specs.BatchRows.{max_light_row}
use Rattle.stream_writer.proofs.RangeBoundLemmas.{LightSoFar}
use Rattle.stream_writer.proofs.range_bounds.is_light.Given as goal

abbrev pub invariant-loop-j : goal.invariant-loop-j
invariant-loop-j l = record {
  light : LightSoFar (drop l.j l.layouts) (drop l.j l.columns) (cells_in l.range.batch.now.columns.items) l.range.from
      l.range.to l.sum (kids_of l.layouts) l.columns;
  small : l.sum ≤ max_light_row;
}
