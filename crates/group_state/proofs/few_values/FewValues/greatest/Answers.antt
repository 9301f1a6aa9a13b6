use Rattle.std.proofs.Common.{Some, ap, sym, ◌∙◌}
use Rattle.values.specs.declared.key.Key.{Key}
use Rattle.group_state.specs.Folds.{last_of}
use Rattle.group_state.proofs.FoldReadings.{last-got}
use Rattle.group_state.proofs.few_values.FewValues.greatest.Goals as goal

pub returns-in-Some : goal.returns-in-Some
returns-in-Some c =
    ap (λ (k : Key). Some k) c.key.ensures
    ∙ sym (last-got c.deref.result.now c.in-Some.field-0.now (sym c.in-Some.ensures.value))
    ∙ ap last_of (c.deref.ensures.value ∙ c.self.view_is)
