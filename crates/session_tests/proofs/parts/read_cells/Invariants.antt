use Rattle.std.proofs.Common.{◌≡◌, length}
use Rattle.session_tests.proofs.parts.read_cells.Given as goal

abbrev pub invariant-loop-number : goal.invariant-loop-number
invariant-loop-number l = length l.store.slots ≡ length l.fn.store.slots
