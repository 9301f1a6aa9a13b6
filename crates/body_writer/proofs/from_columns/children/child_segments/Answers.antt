use Rattle.body_writer.specs.Segments.{segments_cells, OfSlots, ChildLies}
use Rattle.body_writer.proofs.SegmentLemmas.{at-segment}
use Rattle.body_writer.proofs.ChildLemmas.{child-step, child-over}
use Rattle.body_writer.proofs.from_columns.children.child_segments.Goals as goal

pub loop-segment-preserved : goal.loop-segment-preserved
loop-segment-preserved c = record {
  cells = child-step c.args.layout c.args.j c.args.segments.now c.loop-segment.segment-index c.segment-item.result
      (segments_cells c.loop-segment.below.items) (segments_cells c.push_child.new.all.items) _ c.loop-segment-test.true
      c.segment-item.is
      c.in_ok-push_child.ensures.cells c.loop-segment.invariant.cells;
  lies = λ t m all. c.in_ok-push_child.ensures.lies t m
      (at-segment (OfSlots (ChildLies t m c.args.j)) c.args.segments.now c.loop-segment.segment-index c.segment-item.result
      c.loop-segment-test.true
      c.segment-item.is all) (c.loop-segment.invariant.lies t m all);
}

pub returns-clause-cells : goal.returns-clause-cells
returns-clause-cells c =
    child-over c.args.layout c.args.j c.args.segments.now c.loop-segment.segment-index (segments_cells
    c.loop-segment.below.items) _
    c.loop-segment-test.false c.loop-segment.invariant.cells
