use Rattle.std.proofs.Common.{◌-◌, ◌∙◌, sym}
use Rattle.arrays.proofs.UniformLemmas.{items-alike}
use Rattle.arrays.proofs.weigh.+weigh.Goals as goal

pub weigh_items-returns-then-is_uniform-clause-value :
    goal.weigh_items-returns-then-is_uniform-clause-value
weigh_items-returns-then-is_uniform-clause-value t c =
    items-alike c.args.body.now c.args.array.now c.args.from (c.args.to - c.args.from) c.null_weight.result
    c.weigh_alike.result
    (sym c.is_uniform.ensures ∙ c.if-is_uniform.true) c.null_weight.ensures.value c.weigh_alike.ensures.value
