use Rattle.std.proofs.Common.{◌≡◌, take}
use Rattle.dictionaries.proofs.chunks.share_all.Given as goal

abbrev pub invariant-loop-chunk : goal.invariant-loop-chunk
invariant-loop-chunk l = l.shared.items ≡ take l.chunk-index l.chunks
