use Rattle.group_state.proofs.FewValues.{no_values}
use Rattle.group_state.proofs.few_values.FewValues.new.Goals as goal

pub invariant_of-result : goal.invariant_of-result
invariant_of-result c = rw c.new.ensures.items no_values
