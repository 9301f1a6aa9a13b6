use Rattle.std.proofs.Common.{◌≡◌, ◌++◌, ◌+◌, drop, length}
use Rattle.std.specs.Prelude.{map}
use Rattle.body_writer.specs.Slots.{truth_in}
use Rattle.body_writer.specs.Segments.{segments_cells}
use Rattle.body_writer.proofs.from_columns.own.truths.Given as goal

abbrev pub invariant-loop-segment : goal.invariant-loop-segment
invariant-loop-segment l = record {
  size : length l.bits + length (segments_cells (drop l.segment-index l.segments)) ≡ length (segments_cells l.segments);
  bits : l.bits ++ map truth_in (segments_cells (drop l.segment-index l.segments)) ≡ map truth_in (segments_cells l.segments);
}
