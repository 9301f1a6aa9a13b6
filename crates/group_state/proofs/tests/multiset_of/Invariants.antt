use Rattle.std.proofs.Common.{◌≤◌}
use Rattle.values.specs.declared.key.Key.{Key}
use Rattle.group_state.specs.Counts.{had}
use Rattle.group_state.proofs.tests.multiset_of.Given as goal

abbrev pub invariant-loop-number : goal.invariant-loop-number
invariant-loop-number l = (q : Key) → had l.values q ≤ l.number-index
