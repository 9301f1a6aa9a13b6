use Rattle.std.proofs.Common.{Some, ap, sym, ◌∙◌}
use Rattle.values.specs.declared.key.Key.{Key}
use Rattle.group_state.specs.Folds.{last_of}
use Rattle.group_state.proofs.FoldReadings.{last-got}
use Rattle.group_state.proofs.many_values.ManyValues.greatest.Goals as goal

pub returns-in-Some-clause-greatest : goal.returns-in-Some-clause-greatest
returns-in-Some-clause-greatest c =
    ap (λ (k : Key). Some k) c.key.ensures
    ∙ sym (last-got c.self.inside.counts.entries _ c.in-Some.ensures.last)
    ∙ ap last_of c.self.view_is
