use Rattle.std.proofs.Common.{◌≡◌, ◌<◌, ℕ, Bool, get_or, true}
use Rattle.row_keys.proofs.stored_chunk.are_gone.Given as goal

abbrev pub invariant-loop-one : goal.invariant-loop-one
invariant-loop-one l = (k : ℕ) (d : Bool) → k < l.one-index → get_or l.gone k d ≡ true
