use Rattle.std.proofs.Common.{◌≡◌, ◌<◌, ◌≤◌, ℕ, get_or, true}
use Rattle.std.specs.Prelude.{false}
use Rattle.row_keys.proofs.rewriting.next_gone.Given as goal

abbrev pub invariant-loop-index : goal.invariant-loop-index
invariant-loop-index l = (k : ℕ) → l.at ≤ k → k < l.index → get_or l.gone k true ≡ false
