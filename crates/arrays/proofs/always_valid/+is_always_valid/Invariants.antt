use Rattle.std.proofs.Common.{◌≡◌, drop}
use Rattle.values.specs.Rose.{kids_of, rose_size}
use Rattle.arrays.specs.AlwaysValid.{is_always_valid, are_always_valid}
use Rattle.arrays.proofs.always_valid.+is_always_valid.Given as goal

abbrev pub decreases-is_always_valid : goal.decreases-is_always_valid
decreases-is_always_valid l = rose_size l.array.now

abbrev pub invariant-loop-child : goal.invariant-loop-child
invariant-loop-child l = are_always_valid (kids_of (drop l.child-index l.child-items)) ≡ is_always_valid l.array
