use Rattle.std.proofs.Common.{◌≡◌, ◌++◌}
use Rattle.group_state.proofs.tuple.keys_of.Given as goal

abbrev pub invariant-loop-key : goal.invariant-loop-key
invariant-loop-key l = l.keys.items ++ l.key-iterator.rest.items ≡ l.fn.ranked.items
