use Rattle.std.proofs.Common.{◌≡◌, ◌++◌, ◌+◌, drop, List, ℕ}
use Rattle.std.specs.Prelude.{map}
use Rattle.body_writer.specs.Slots.{length_in, total_length}
use Rattle.body_writer.specs.Columns.{offsets_from}
use Rattle.body_writer.specs.Segments.{segments_cells}
use Rattle.body_writer.proofs.from_columns.own.push_offsets.Given as goal

abbrev pub invariant-loop-segment : goal.invariant-loop-segment
invariant-loop-segment l = record {
  end : l.end + total_length (segments_cells (drop l.segment-index l.segments)) ≡ total_length (segments_cells l.segments);
  bytes : (rest : List ℕ)
      → l.out.items ++ offsets_from l.width l.end (map length_in (segments_cells (drop l.segment-index l.segments)) ++
      rest)
      ≡ l.fn.out.items ++ offsets_from l.width 0 (map length_in (segments_cells l.segments) ++ rest);
}
