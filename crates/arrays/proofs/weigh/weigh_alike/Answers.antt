use Rattle.std.proofs.Common.{◌*◌, ◌∙◌}
use Rattle.arrays.proofs.UniformLemmas.{saturated-sum}
use Rattle.arrays.proofs.weigh.weigh_alike.Goals as goal

pub returns-clause-value : goal.returns-clause-value
returns-clause-value c =
    c.cap.ensures.value
    ∙ saturated-sum (c.args.weight * c.args.count) c.saturating_mul.result c.saturating_add.result
    c.saturating_mul.ensures c.saturating_add.ensures
