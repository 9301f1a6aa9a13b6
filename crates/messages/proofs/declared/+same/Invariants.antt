use Rattle.std.proofs.Common.{◌≡◌, ◌+◌, ◌*◌, drop}
use Rattle.values.specs.Rose.{kids_of, rose_size, roses_size}
use Rattle.schema_meta.specs.SameColumns.{are_same}
use Rattle.messages.proofs.declared.+same.Given as goal

abbrev pub decreases-is_same : goal.decreases-is_same
decreases-is_same l = 2 * rose_size l.a.now

abbrev pub decreases-are_same : goal.decreases-are_same
decreases-are_same l = 2 * roses_size (kids_of l.a.now) + 1

abbrev pub invariant-are_same-loop-index : goal.invariant-are_same-loop-index
invariant-are_same-loop-index l =
    are_same (kids_of (drop l.index l.a)) (kids_of (drop l.index l.b)) ≡ are_same (kids_of l.a) (kids_of l.b)
