use Rattle.std.proofs.Common.{◌≡◌, ◌++◌, drop}
use Rattle.group_state.proofs.few_values.FewValues.to_many.Given as goal

abbrev pub invariant-loop-place : goal.invariant-loop-place
invariant-loop-place l = l.many ++ drop l.place l.self ≡ l.self
