use Rattle.std.proofs.Common.{◌<◌, ℕ, get_or}
use Rattle.row_keys.specs.Chunks.{Chunk}
use Rattle.row_keys.specs.RowsLeft.{IsWide}
use Rattle.row_keys.proofs.rewriting.are_wide.Given as goal

abbrev pub invariant-loop-chunk : goal.invariant-loop-chunk
invariant-loop-chunk l = (k : ℕ) (d : Chunk) → k < l.chunk-index → IsWide l.columns (get_or l.part k d)
