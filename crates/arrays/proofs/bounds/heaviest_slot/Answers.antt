use Rattle.std.proofs.Common.{arith, ap, ◌∙◌}
use Rattle.arrays.specs.Weights.{capped}
use Rattle.arrays.proofs.BoundLemmas.{bounds_none, bounds_more}
use Rattle.arrays.proofs.bounds.heaviest_slot.Goals as goal

pub loop-i-init : goal.loop-i-init
loop-i-init c =
    (bounds_none _ _ _ (c.cap-most.ensures.value ∙ ap capped c.own_null_weight.ensures.value), c.cap-most.ensures.bound)

pub loop-i-preserved : goal.loop-i-preserved
loop-i-preserved c = (
  bounds_more _ c.loop-i.most c.weigh_encoded.result c.max-most.result _ c.loop-i.i c.loop-i.invariant.0
      c.weigh_encoded.ensures.value c.max-most.ensures,
  omega (arith, c.loop-i.invariant.1, c.weigh_encoded.ensures.bound, c.max-most.ensures),
)
