use Rattle.std.proofs.Common.{◌≡◌, ◌++◌}
use Rattle.group_state.proofs.groups.in_order.Given as goal

abbrev pub invariant-loop-tuple : goal.invariant-loop-tuple
invariant-loop-tuple l = l.listed.items ++ l.tuple-iterator ≡ l.fn.tuples.keys
