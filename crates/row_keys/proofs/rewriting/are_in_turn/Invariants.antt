use Rattle.std.proofs.Common.{◌≡◌, ◌+◌, ◌<◌, ℕ, get_or}
use Rattle.row_keys.proofs.rewriting.are_in_turn.Given as goal

abbrev pub invariant-loop-index : goal.invariant-loop-index
invariant-loop-index l = (k : ℕ) → k < l.index → get_or l.numbers k 0 ≡ l.first + k
