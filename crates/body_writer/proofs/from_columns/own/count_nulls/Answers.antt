use Rattle.std.proofs.Common.{arith}
use Rattle.body_writer.specs.Segments.{segments_cells}
use Rattle.body_writer.proofs.BitLemmas.{nulls-few}
use Rattle.body_writer.proofs.SegmentLemmas.{count-step, count-over}
use Rattle.body_writer.proofs.from_columns.own.count_nulls.Goals as goal

pub overflow_add-nulls : goal.overflow_add-nulls
overflow_add-nulls c =
    let step =
    count-step c.args.segments.now c.loop-segment.segment-index c.segment-item.result c.loop-segment.nulls
    c.segment_nulls-nulls.result _ c.loop-segment-test.true
    c.segment-item.is c.segment_nulls-nulls.ensures c.loop-segment.invariant in
    let few = nulls-few (segments_cells c.args.segments.now) in
    omega (arith, step, few, c.requires.few)

pub loop-segment-preserved : goal.loop-segment-preserved
loop-segment-preserved c =
    count-step c.args.segments.now c.loop-segment.segment-index c.segment-item.result c.loop-segment.nulls
    c.segment_nulls-nulls.result _ c.loop-segment-test.true
    c.segment-item.is c.segment_nulls-nulls.ensures c.loop-segment.invariant

pub returns-clause-value : goal.returns-clause-value
returns-clause-value c =
    count-over c.args.segments.now c.loop-segment.segment-index c.loop-segment.nulls _ c.loop-segment-test.false
    c.loop-segment.invariant

pub returns-clause-bound : goal.returns-clause-bound
returns-clause-bound c =
    let all = count-over c.args.segments.now c.loop-segment.segment-index c.loop-segment.nulls _ c.loop-segment-test.false
    c.loop-segment.invariant in
    let few = nulls-few (segments_cells c.args.segments.now) in
    omega (arith, all, few, c.requires.few)
