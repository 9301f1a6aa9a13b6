use Rattle.std.proofs.Common.{rules}
use Rattle.values.specs.Rose.{node, kids_of}
use Rattle.body_writer.specs.Segments.{LiesAs}
use Rattle.body_writer.proofs.SegmentLemmas.{all-before}
use Rattle.body_writer.proofs.from_columns.kinds.all_lie_as.Goals as goal

pub loop-segment-preserved : goal.loop-segment-preserved
loop-segment-preserved c = λ rest.
    c.loop-segment.invariant
    (all-before (LiesAs c.args.layout.now (node c.args.model.own.now (kids_of c.args.model.children.now)))
    c.args.segments.now c.loop-segment.segment-index c.segment-item.result c.loop-segment-test.true c.segment-item.is
    (c.lies_as.ensures (search rules)) rest)
