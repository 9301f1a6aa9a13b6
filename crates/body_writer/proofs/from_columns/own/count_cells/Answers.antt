use Rattle.std.proofs.Common.{ap, arith, length}
use Rattle.body_writer.proofs.SegmentLemmas.{size-split, segments-none}
use Rattle.body_writer.proofs.from_columns.own.count_cells.Goals as goal

pub overflow_add-count : goal.overflow_add-count
overflow_add-count c =
    let split = size-split c.args.segments.now c.loop-segment.segment-index c.segment-item.result c.loop-segment-test.true
    c.segment-item.is in
    omega (arith, split, c.cells_in-count.ensures, c.loop-segment.invariant, c.requires.few)

pub loop-segment-preserved : goal.loop-segment-preserved
loop-segment-preserved c =
    let split = size-split c.args.segments.now c.loop-segment.segment-index c.segment-item.result c.loop-segment-test.true
    c.segment-item.is in
    omega (arith, split, c.cells_in-count.ensures, c.loop-segment.invariant)

pub returns : goal.returns
returns c =
    let none = ap length (segments-none c.args.segments.now c.loop-segment.segment-index c.loop-segment-test.false) in
    omega (arith, none, c.loop-segment.invariant)
