use Rattle.std.proofs.Common.{arith}
use Rattle.row_keys.proofs.stored_chunk.are_gone.Goals as goal

pub returns : goal.returns
returns c = λ _ k d below. c.loop-one.invariant k d (omega (arith, below))
