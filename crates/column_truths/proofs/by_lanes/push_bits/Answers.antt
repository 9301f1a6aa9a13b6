use Rattle.column_truths.proofs.LaneRuns.{all_lying, one_lying}
use Rattle.column_truths.proofs.by_lanes.push_bits.Goals as goal

pub loop-i-preserved : goal.loop-i-preserved
loop-i-preserved c =
    let next = one_lying c.args.width c.args.span.low c.args.span.span c.args.bytes.now c.args.len c.loop-i.i
    c.is_within.result c.loop-i.made c.push.new.self c.loop-i.invariant.begun c.loop-i.invariant.count
    c.loop-i-test.true c.is_within.ensures c.in_ok-push.ensures.pushed in
    record { begun = next.0; count = next.1 }

pub returns : goal.returns
returns c =
    all_lying c.args.width c.args.span.low c.args.span.span c.args.bytes.now c.args.len c.loop-i.i c.loop-i.made
    c.loop-i.invariant.begun c.loop-i.invariant.count c.loop-i-test.false
