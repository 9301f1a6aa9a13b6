use Rattle.std.proofs.Common.{ap}
use Rattle.bitmaps.specs.Packed.{bytes_of}
use Rattle.body_writer.specs.Slots.{truth_in}
use Rattle.body_writer.specs.Columns.{truths}
use Rattle.body_writer.proofs.SegmentLemmas.{maps-over}
use Rattle.body_writer.proofs.from_columns.own.truths.Goals as goal

pub returns : goal.returns
unfolding truths
returns c =
    ap bytes_of
    (maps-over truth_in c.args.segments.now c.loop-segment.segment-index c.loop-segment.bits _ c.loop-segment-test.false
    c.loop-segment.invariant.bits)
