use Rattle.std.proofs.Common.{take}
use Rattle.group_state.specs.FewValues.{ArePast}
use Rattle.group_state.proofs.few_values.FewValues.place.Given as goal

abbrev pub invariant-loop-place : goal.invariant-loop-place
invariant-loop-place l = ArePast l.key (take l.place l.self)
