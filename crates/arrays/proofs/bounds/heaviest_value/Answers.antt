use Rattle.std.proofs.Common.{arith, ap, ◌∙◌}
use Rattle.arrays.specs.Weights.{capped}
use Rattle.arrays.proofs.BoundLemmas.{bounds_none, bounds_more, value_there, value_counted}
use Rattle.arrays.proofs.bounds.heaviest_value.Goals as goal

pub loop-k-init : goal.loop-k-init
loop-k-init c =
    (bounds_none _ _ _ (c.cap-most.ensures.value ∙ ap capped c.own_null_weight.ensures.value), c.cap-most.ensures.bound)

pub unwrap-value-requires : goal.unwrap-value-requires
unwrap-value-requires c =
    value_there c.get.result c.args.dictionary.now.values c.loop-k.k c.get.ensures
    (omega (arith, c.loop-k-test.true, c.len-k-end.ensures))

pub loop-k-preserved : goal.loop-k-preserved
loop-k-preserved c =
    let here =
    value_counted c.args.dictionary.now.layout c.args.dictionary.now.values c.loop-k.k c.own_weight.result c.cap.result
    c.get.result c.unwrap-value.result c.get.ensures c.unwrap-value.ensures c.own_weight.ensures
    c.cap.ensures.value in (
      bounds_more _ c.loop-k.most c.cap.result c.max-most.result _ c.loop-k.k c.loop-k.invariant.0 here
          c.max-most.ensures,
      omega (arith, c.loop-k.invariant.1, c.cap.ensures.bound, c.max-most.ensures),
    )
