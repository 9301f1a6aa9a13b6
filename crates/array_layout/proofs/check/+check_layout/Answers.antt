use Rattle.std.proofs.Common.{arith}
use Rattle.array_layout.proofs.SoundLemmas.{left_start, left_step}
use Rattle.array_layout.proofs.check.+check_layout.Goals as goal

pub loop-child-init : goal.loop-child-init
loop-child-init t c =
    let decided = c.in_ok-check_data.ensures in
    left_start _ _ c.array.inside.own c.array.inside.children.items c.deref-children.result.now _ c.array.view_is
    c.deref-children.ensures.value
    c.first_len.ensures c.requires decided.passes decided.bits decided.room

pub loop-child-preserved : goal.loop-child-preserved
loop-child-preserved t c =
    let decided = c.in_ok-check_layout.ensures in
    left_step _ c.deref-children.result.now c.loop-child.child-index _ _ _ c.child-item.is
    (omega (arith, c.loop-child-test.true))
    decided.passes decided.sound c.loop-child.invariant
