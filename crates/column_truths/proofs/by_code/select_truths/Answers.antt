use Rattle.std.proofs.Common.{◌∙◌, arith}
use Rattle.column_truths.specs.Compared.{slot_truth}
use Rattle.column_truths.proofs.JoinedTruths.{gathered_step, gathered_known, gathered_unknown, gathered_end}
use Rattle.column_truths.proofs.by_code.select_truths.Goals as goal

pub push_truth-requires-clause-known : goal.push_truth-requires-clause-known
push_truth-requires-clause-known c =
    let count = gathered_known _ c.loop-i.known c.loop-i.unknown c.loop-i.i c.loop-i.invariant in
    omega (arith, count, c.loop-i-test.true, c.ranges.len.fits)

pub push_truth-requires-clause-unknown : goal.push_truth-requires-clause-unknown
push_truth-requires-clause-unknown c =
    let count = gathered_unknown _ c.loop-i.known c.loop-i.unknown c.loop-i.i c.loop-i.invariant in
    omega (arith, count, c.loop-i-test.true, c.ranges.len.fits)

pub loop-i-preserved : goal.loop-i-preserved
loop-i-preserved c =
    gathered_step _ c.loop-i.known c.loop-i.unknown c.push_truth.new.known c.push_truth.new.unknown c.loop-i.i
    c.slot_truth.result c.loop-i.invariant c.slot_truth.ensures c.in_ok-push_truth.ensures.known
    c.in_ok-push_truth.ensures.unknown

pub returns : goal.returns
returns c =
    c.in_ok-truths.ensures
    ∙ gathered_end (slot_truth c.args.bits.now c.args.indices.now c.args.width c.args.signed c.args.of_values.now)
    c.loop-i.known c.loop-i.unknown c.bits.result c.loop-i.i c.args.len c.loop-i.invariant (omega arith) c.bits.ensures
