use Rattle.body_writer.specs.Slots.{bytes_in}
use Rattle.body_writer.specs.Columns.{joined}
use Rattle.body_writer.proofs.SegmentLemmas.{flat-step, flat-over}
use Rattle.body_writer.proofs.from_columns.own.push_joined.Goals as goal

pub loop-segment-preserved : goal.loop-segment-preserved
unfolding joined
loop-segment-preserved c =
    flat-step bytes_in c.args.segments.now c.loop-segment.segment-index c.segment-item.result c.loop-segment.out.items
    c.push_segment_bytes.new.out.items _ c.loop-segment-test.true c.segment-item.is c.in_ok-push_segment_bytes.ensures
    c.loop-segment.invariant

pub returns : goal.returns
unfolding joined
returns c =
    flat-over bytes_in c.args.segments.now c.loop-segment.segment-index c.loop-segment.out.items _ c.loop-segment-test.false
    c.loop-segment.invariant
