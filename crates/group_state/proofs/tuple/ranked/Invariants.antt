use Rattle.std.proofs.Common.{◌≡◌, ◌++◌}
use Rattle.group_state.proofs.tuple.ranked.Given as goal

abbrev pub invariant-loop-key : goal.invariant-loop-key
invariant-loop-key l = l.ranked.items ++ l.key-iterator.rest.items ≡ l.fn.keys.items
