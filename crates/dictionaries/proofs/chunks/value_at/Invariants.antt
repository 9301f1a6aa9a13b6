use Rattle.std.proofs.Common.{◌≡◌, drop}
use Rattle.std.specs.Prelude.{slice_get}
use Rattle.dictionaries.specs.Joined.{joined}
use Rattle.dictionaries.proofs.chunks.value_at.Given as goal

abbrev pub invariant-loop-chunk : goal.invariant-loop-chunk
invariant-loop-chunk l = slice_get (joined l.chunks) l.i ≡ slice_get (joined (drop l.chunk-index l.chunks)) l.left
