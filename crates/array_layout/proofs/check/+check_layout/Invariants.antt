use Rattle.std.proofs.Common.{drop}
use Rattle.values.specs.Rose.{kids_of, rose_size}
use Rattle.array_layout.proofs.SoundLemmas.{Left}
use Rattle.array_layout.proofs.check.+check_layout.Given as goal

abbrev pub decreases-check_layout : goal.decreases-check_layout
decreases-check_layout l = rose_size l.array.now

abbrev pub invariant-loop-child : goal.invariant-loop-child
invariant-loop-child l = Left l.body (kids_of (drop l.child-index l.children)) l.array
