use Rattle.std.proofs.Common.{◌≡◌, ◌++◌, drop}
use Rattle.std.specs.List.{flat_map}
use Rattle.body_writer.specs.Runs.{slot_bytes}
use Rattle.body_writer.specs.Segments.{segments_cells}
use Rattle.body_writer.proofs.from_columns.own.push_slots.Given as goal

abbrev pub invariant-loop-segment : goal.invariant-loop-segment
invariant-loop-segment l =
    l.out.items ++ flat_map (slot_bytes l.fn.layout) (segments_cells (drop l.segment-index l.segments))
    ≡ l.fn.out.items ++ flat_map (slot_bytes l.fn.layout) (segments_cells l.segments)
