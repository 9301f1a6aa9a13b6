use Rattle.std.proofs.Common.{◌≡◌, ◌++◌, drop}
use Rattle.group_state.proofs.many_numbers.ManyNumbers.of.Given as goal

abbrev pub invariant-loop-place : goal.invariant-loop-place
invariant-loop-place l = l.numbers ++ drop l.place l.values ≡ l.values
