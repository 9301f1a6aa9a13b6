use Rattle.std.proofs.Common.{◌≡◌, ◌+◌, ◌*◌, ◌<◌, ◌^◌, drop}
use Rattle.values.specs.Rose.{kids_of, rose_size, roses_size}
use Rattle.values.specs.Layouts.{null_weights}
use Rattle.values.specs.Weights.{saturated}
use Rattle.values.proofs.weigh.+null_weight.Given as goal

abbrev pub decreases-null_weight : goal.decreases-null_weight
decreases-null_weight l = 4 * rose_size l.layout.now

abbrev pub decreases-null_weight_of : goal.decreases-null_weight_of
decreases-null_weight_of l = 4 * roses_size (kids_of l.children.now) + 3

abbrev pub decreases-null_weights : goal.decreases-null_weights
decreases-null_weights l = 4 * roses_size (kids_of l.children.now) + 2

abbrev pub invariant-null_weights-loop-child : goal.invariant-null_weights-loop-child
invariant-null_weights-loop-child l =
    (saturated (l.sum + null_weights (kids_of (drop l.child-index l.children))) ≡ saturated (null_weights (kids_of l.children)))
    × (l.sum < 2 ^ 64)
