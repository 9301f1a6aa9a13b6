use Rattle.std.proofs.Common.{◌≡◌, length}
use Rattle.session_tests.proofs.batches.validity.Given as goal

abbrev pub invariant-loop-entry : goal.invariant-loop-entry
invariant-loop-entry l = length l.bits ≡ l.entry-index
