use Rattle.std.proofs.Common.{◌≡◌, ◌++◌, drop}
use Rattle.body_writer.specs.Slots.{cells_of}
use Rattle.body_writer.specs.Segments.{segments_cells}
use Rattle.body_writer.proofs.from_columns.encoded.encoded_cells.Given as goal

abbrev pub invariant-loop-segment : goal.invariant-loop-segment
invariant-loop-segment l = cells_of l.cells.items ++ segments_cells (drop l.segment-index l.segments) ≡ segments_cells l.segments
