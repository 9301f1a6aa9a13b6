use Rattle.std.proofs.Common.{◌≡◌, ◌++◌, drop, All}
use Rattle.values.specs.Rose.{Rose}
use Rattle.values.specs.declared.layout.Layout.{Layout}
use Rattle.array_layout.specs.declared.array.ArrayData.{ArrayData}
use Rattle.body_writer.specs.Columns.{child_cells}
use Rattle.body_writer.specs.Segments.{segments_cells, ChildLies, LiesAs, OfSlots}
use Rattle.body_writer.proofs.from_columns.children.child_segments.Given as goal

abbrev pub invariant-loop-segment : goal.invariant-loop-segment
invariant-loop-segment l = record {
  cells : segments_cells l.below.items ++ child_cells l.layout l.j (segments_cells (drop l.segment-index l.segments))
      ≡ child_cells l.layout l.j (segments_cells l.segments);
  lies : (t : Rose Layout) (m : Rose ArrayData) → All (OfSlots (ChildLies t m l.j)) l.segments
      → All (LiesAs t m) l.below.items;
}
