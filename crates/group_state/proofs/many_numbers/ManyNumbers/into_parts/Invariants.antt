use Rattle.std.proofs.Common.{◌≡◌, ◌++◌, map}
use Rattle.group_state.specs.GroupParts.{count_with}
use Rattle.group_state.specs.Numbers.{numbered}
use Rattle.group_state.proofs.many_numbers.ManyNumbers.into_parts.Given as goal

abbrev pub invariant-loop-number : goal.invariant-loop-number
invariant-loop-number l = map count_with l.taken.items ++ numbered l.number-iterator ≡ l.fn.self
