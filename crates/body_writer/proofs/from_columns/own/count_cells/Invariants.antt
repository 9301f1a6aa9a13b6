use Rattle.std.proofs.Common.{◌≡◌, ◌+◌, drop, length}
use Rattle.body_writer.specs.Segments.{segments_cells}
use Rattle.body_writer.proofs.from_columns.own.count_cells.Given as goal

abbrev pub invariant-loop-segment : goal.invariant-loop-segment
invariant-loop-segment l =
    l.count + length (segments_cells (drop l.segment-index l.segments)) ≡ length (segments_cells l.segments)
