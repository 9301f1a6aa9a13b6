use Rattle.std.proofs.Common.{◌≤◌, length}
use Rattle.dictionaries.proofs.chunks.unmerged.Given as goal

abbrev pub invariant-loop-unmerged : goal.invariant-loop-unmerged
invariant-loop-unmerged l = l.unmerged ≤ length l.chunks

abbrev pub decreases-loop-unmerged : goal.decreases-loop-unmerged
decreases-loop-unmerged l = l.unmerged
