use Rattle.std.proofs.Common.{◌≡◌, take}
use Rattle.dictionaries.specs.Joined.{joined}
use Rattle.dictionaries.proofs.chunks.merge.Given as goal

abbrev pub invariant-loop-chunk : goal.invariant-loop-chunk
invariant-loop-chunk l = l.all ≡ joined (take l.chunk-index l.chunks)
