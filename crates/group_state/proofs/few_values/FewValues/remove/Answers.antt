use Rattle.group_state.proofs.FewValues.{nothing_taken}
use Rattle.group_state.proofs.few_values.FewValues.remove.Goals as goal

pub returns-in-Err : goal.returns-in-Err
returns-in-Err c = nothing_taken c.args.key.now c.args.times c.in-Err._place c.args.self.now c.in-Err.ensures c.len-size.ensures.ordered
