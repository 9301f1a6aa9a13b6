use Rattle.std.proofs.Common.{arith}
use Rattle.arrays.proofs.WeightLemmas.{slots_step}
use Rattle.arrays.proofs.weigh.+null_weight.Goals as goal

pub null_weights-loop-child-preserved : goal.null_weights-loop-child-preserved
null_weights-loop-child-preserved t c =
    let child = c.null_weight.ensures in
    let sum = c.cap-sum-in-loop-child.ensures in (
      slots_step c.args.children.now c.loop-child.child-index _ _ c.loop-child.sum c.null_weight.result
          c.cap-sum-in-loop-child.result _ c.child-item.is
          (omega (arith, c.loop-child-test.true)) child.value sum.value c.loop-child.invariant.0,
      sum.bound,
    )
