use Rattle.std.proofs.Common.{length}
use Rattle.row_keys.proofs.ChunkedRows.{IsCutSoFar}
use Rattle.row_keys.proofs.stored_rows.cut.Given as goal

abbrev pub invariant-loop-chunks : goal.invariant-loop-chunks
invariant-loop-chunks l = IsCutSoFar l.fn.chunks.items l.len l.chunks.items

abbrev pub decreases-loop-chunks : goal.decreases-loop-chunks
decreases-loop-chunks l = length l.chunks.items
