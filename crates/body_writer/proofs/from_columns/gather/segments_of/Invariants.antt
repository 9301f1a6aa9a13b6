use Rattle.std.proofs.Common.{◌≡◌, ◌++◌, drop, All}
use Rattle.body_writer.specs.Segments.{HasWidth, OfSlots, segments_cells}
use Rattle.body_writer.specs.RowRanges.{column_in}
use Rattle.body_writer.proofs.from_columns.gather.segments_of.Given as goal

abbrev pub invariant-loop-range : goal.invariant-loop-range
invariant-loop-range l = record {
  segments : All (OfSlots HasWidth) l.segments.items;
  cells : segments_cells l.segments.items ++ column_in l.j (drop l.range-index l.ranges) ≡ column_in l.j l.ranges;
}
