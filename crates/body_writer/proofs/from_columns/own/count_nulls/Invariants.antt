use Rattle.std.proofs.Common.{◌≡◌, ◌+◌, drop}
use Rattle.body_writer.specs.Slots.{null_count}
use Rattle.body_writer.specs.Segments.{segments_cells}
use Rattle.body_writer.proofs.from_columns.own.count_nulls.Given as goal

abbrev pub invariant-loop-segment : goal.invariant-loop-segment
invariant-loop-segment l =
    l.nulls + null_count (segments_cells (drop l.segment-index l.segments)) ≡ null_count (segments_cells l.segments)
