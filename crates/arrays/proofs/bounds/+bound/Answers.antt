use Rattle.values.specs.Rose.{kids_of}
use Rattle.arrays.proofs.BoundLemmas.{covers_step, encoded_bounded, fixed_bounded, list_bounded}
use Rattle.arrays.proofs.ValidationLemmas.{list_child}
use Rattle.arrays.proofs.bounds.+bound.Goals as goal

pub list_bound-returns-clause-value : goal.list_bound-returns-clause-value
list_bound-returns-clause-value t c =
    list_bounded c.args.body.now c.args.own.now c.args.children.now c.items_array-items.result.now
    c.items_array-items.result.now c.args.width c.weight_bound.result _ c.extents_bound.result c.requires.sound
    c.requires.listed c.items_array-items.ensures
    (list_child c.args.body.now c.args.own.now c.args.children.now c.args.width c.requires.sound c.requires.listed)
    c.weight_bound.ensures.value c.extents_bound.ensures.value

pub own_bound-returns-in-Some-clause-value : goal.own_bound-returns-in-Some-clause-value
own_bound-returns-in-Some-clause-value t c =
    encoded_bounded c.max.result c.null_weight_of-null.result c.encoded_bound.result c.args.body.now c.args.own.now
    (kids_of c.args.children.now) c.in-Some.dictionary c.in-Some.is c.null_weight_of-null.ensures.value
    c.encoded_bound.ensures.value c.max.ensures

pub row_bound-loop-child-preserved : goal.row_bound-loop-child-preserved
row_bound-loop-child-preserved t c =
    let sum = c.cap-sum-in-loop-child.ensures in (
      covers_step c.args.body.now c.args.children.now c.loop-child.child-index c.child-item.result _ c.loop-child.sum
          c.weight_bound.result c.cap-sum-in-loop-child.result c.args.count c.child-item.is c.loop-child-test.true
          c.requires.long c.weight_bound.ensures.value sum.value c.loop-child.invariant.0,
      sum.bound,
    )

pub value_bound-returns-in-Bool-clause-value : goal.value_bound-returns-in-Bool-clause-value
value_bound-returns-in-Bool-clause-value t c =
    fixed_bounded c.null_weight_of.result c.args.body.now c.args.own.now (kids_of c.args.children.now) c.in-Bool.is
    c.null_weight_of.ensures.value
