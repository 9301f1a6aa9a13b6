use Rattle.std.proofs.Common.{◌≡◌, ◌++◌}
use Rattle.lookups.proofs.numbers.NumberSet.of.Given as goal

abbrev pub invariant-loop-number : goal.invariant-loop-number
invariant-loop-number l = l.made.keys ++ l.number-iterator.rest.items ≡ l.fn.numbers.items
