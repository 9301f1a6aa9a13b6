use Rattle.std.proofs.Common.{◌≡◌, ◌++◌, drop}
use Rattle.std.specs.Prelude.{map}
use Rattle.body_writer.specs.Segments.{segments_cells}
use Rattle.body_writer.specs.Texts.{as_bytes, bytes_cells}
use Rattle.body_writer.proofs.from_columns.encoded_texts.encoded_texts.Given as goal

abbrev pub invariant-loop-segment : goal.invariant-loop-segment
invariant-loop-segment l =
    bytes_cells l.texts.items ++ map as_bytes (segments_cells (drop l.segment-index l.segments)) ≡ map as_bytes (segments_cells l.segments)
