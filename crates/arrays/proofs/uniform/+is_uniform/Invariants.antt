use Rattle.std.proofs.Common.{◌≡◌, drop}
use Rattle.values.specs.Rose.{kids_of, rose_size}
use Rattle.arrays.specs.Uniform.{is_uniform, are_uniform}
use Rattle.arrays.proofs.uniform.+is_uniform.Given as goal

abbrev pub decreases-is_uniform : goal.decreases-is_uniform
decreases-is_uniform l = rose_size l.array.now

abbrev pub invariant-loop-child : goal.invariant-loop-child
invariant-loop-child l = are_uniform (kids_of (drop l.child-index l.child-items)) ≡ is_uniform l.array
