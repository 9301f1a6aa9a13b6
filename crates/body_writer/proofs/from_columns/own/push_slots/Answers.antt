use Rattle.body_writer.specs.Runs.{slot_bytes}
use Rattle.body_writer.proofs.SegmentLemmas.{flat-step, flat-over}
use Rattle.body_writer.proofs.from_columns.own.push_slots.Goals as goal

pub loop-segment-preserved : goal.loop-segment-preserved
loop-segment-preserved c =
    flat-step (slot_bytes c.args.layout) c.args.segments.now c.loop-segment.segment-index c.segment-item.result
    c.loop-segment.out.items
    c.push_segment_slots.new.out.items _ c.loop-segment-test.true c.segment-item.is
    c.in_ok-push_segment_slots.ensures
    c.loop-segment.invariant

pub returns : goal.returns
returns c =
    flat-over (slot_bytes c.args.layout) c.args.segments.now c.loop-segment.segment-index c.loop-segment.out.items _
    c.loop-segment-test.false
    c.loop-segment.invariant
