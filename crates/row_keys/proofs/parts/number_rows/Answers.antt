use Rattle.std.proofs.Common.{arith}
use Rattle.row_keys.proofs.TakenApart.{numbered_all, numbered_before, numbered_end, numbered_more, pushed_there}
use Rattle.row_keys.proofs.parts.number_rows.Goals as goal

pub skip_to-requires-clause-from : goal.skip_to-requires-clause-from
skip_to-requires-clause-from c =
    (numbered_before c.args.rows.now c.args.len c.loop-row.row-index c.row-item.result c.loop-row.numbers
    c.requires.order c.loop-row.invariant c.loop-row-test.true c.row-item.is).0

pub skip_to-requires-clause-bound : goal.skip_to-requires-clause-bound
skip_to-requires-clause-bound c =
    let below =
    (numbered_before c.args.rows.now c.args.len c.loop-row.row-index c.row-item.result c.loop-row.numbers
    c.requires.order c.loop-row.invariant c.loop-row-test.true c.row-item.is).1 in
    let few = c.requires.bound in
    omega (arith, below, few)

pub skip_to-requires-2-clause-from : goal.skip_to-requires-2-clause-from
skip_to-requires-2-clause-from c =
    numbered_end c.args.rows.now c.args.len c.loop-row.row-index c.loop-row.numbers c.requires.order
    c.loop-row.invariant

pub retract-requires : goal.retract-requires
retract-requires c =
    pushed_there c.args.rows.now c.args.len c.loop-row.row-index c.row-item.result c.loop-row.numbers
    c.skip_to.new.self c.push.new.self c.in_ok-copy.field-0 c.in_ok-push.field-0 c.requires.order c.loop-row.invariant
    c.loop-row-test.true c.row-item.is c.in_ok-skip_to.ensures.ok c.in_ok-push.ensures.pushed

pub loop-row-preserved : goal.loop-row-preserved
loop-row-preserved c =
    numbered_more c.args.rows.now c.args.len c.loop-row.row-index c.row-item.result c.loop-row.numbers
    c.skip_to.new.self c.push.new.self c.retract.new.self c.in_ok-copy.field-0 c.in_ok-push.field-0 c.requires.order
    c.loop-row.invariant c.loop-row-test.true c.row-item.is c.in_ok-skip_to.ensures.ok c.in_ok-copy.ensures
    c.in_ok-push.ensures.pushed c.retract.ensures

pub returns : goal.returns
returns c =
    numbered_all c.args.rows.now c.args.len c.loop-row.row-index c.loop-row.numbers c.skip_to-2.new.self
    c.requires.order c.loop-row.invariant c.loop-row-test.false c.in_ok-skip_to-2.ensures.ok
