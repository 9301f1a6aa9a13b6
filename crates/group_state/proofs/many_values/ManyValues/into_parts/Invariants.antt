use Rattle.std.proofs.Common.{◌≡◌, ◌++◌, map}
use Rattle.group_state.specs.GroupParts.{count_with}
use Rattle.group_state.proofs.many_values.ManyValues.into_parts.Given as goal

abbrev pub invariant-loop-value : goal.invariant-loop-value
invariant-loop-value l = map count_with l.taken.items ++ l.value-iterator ≡ l.fn.self
