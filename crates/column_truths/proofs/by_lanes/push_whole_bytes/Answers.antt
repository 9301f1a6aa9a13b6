use Rattle.std.proofs.Common.{arith}
use Rattle.column_truths.proofs.LaneRuns.{more_lying}
use Rattle.column_truths.proofs.by_lanes.push_whole_bytes.Goals as goal

pub loop-width-smaller : goal.loop-width-smaller
loop-width-smaller c =
    let next = more_lying c.args.width c.args.span.low c.args.span.span c.args.bytes.now c.args.len
    c.len-in-loop-width.result c.byte_within-byte.result c.loop-width.made c.push_bytes.new.self
    c.loop-width.invariant.begun c.len-in-loop-width.ensures
    (omega (arith, c.loop-width-test.true, c.len.ensures, c.len-in-loop-width.ensures))
    c.byte_within-byte.ensures c.in_ok-push_bytes.ensures.pushed in
    omega (arith, next.1, c.loop-width-test.true, c.len.ensures)

pub loop-width-preserved : goal.loop-width-preserved
loop-width-preserved c =
    let next = more_lying c.args.width c.args.span.low c.args.span.span c.args.bytes.now c.args.len
    c.len-in-loop-width.result c.byte_within-byte.result c.loop-width.made c.push_bytes.new.self
    c.loop-width.invariant.begun c.len-in-loop-width.ensures
    (omega (arith, c.loop-width-test.true, c.len.ensures, c.len-in-loop-width.ensures))
    c.byte_within-byte.ensures c.in_ok-push_bytes.ensures.pushed in
    record { whole = omega (arith, next.1, c.loop-width.invariant.whole); begun = next.0 }
