use Rattle.std.proofs.Common.{refl}
use Rattle.row_keys.proofs.GatheredRows.{pushed_first, pushed_more}
use Rattle.row_keys.proofs.rewriting.push_ranges.Goals as goal

pub loop-at-init : goal.loop-at-init
loop-at-init c =
    pushed_first c.args.batch.now c.args.gone.now c.args.from c.args.ranges.now.items c.next_left-at.result
    c.requires.rows c.next_left-at.ensures.from c.next_left-at.ensures.within c.next_left-at.ensures.gone
    c.next_left-at.ensures.left

pub loop-at-preserved : goal.loop-at-preserved
loop-at-preserved c =
    let next = c.next_left-at-in-loop-at in
    pushed_more c.args.batch.now c.args.gone.now c.args.from c.args.ranges.now.items c.loop-at.ranges.items
    c.push.new.self.items _ c.loop-at.at c.next_gone-to.result next.result c.requires.rows c.loop-at.invariant
    c.loop-at-test.true c.in_ok-push.ensures.items refl refl refl c.next_gone-to.ensures.from
    c.next_gone-to.ensures.within c.next_gone-to.ensures.left next.ensures.from next.ensures.within next.ensures.gone
    next.ensures.left
