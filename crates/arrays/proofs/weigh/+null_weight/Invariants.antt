use Rattle.std.proofs.Common.{◌≡◌, ◌+◌, ◌*◌, ◌≤◌, drop, suc}
use Rattle.values.specs.Limits.{max_cell_weight}
use Rattle.values.specs.Rose.{kids_of, rose_size, roses_size}
use Rattle.values.specs.Layouts.{null_weights}
use Rattle.array_layout.specs.Placing.{layouts_of}
use Rattle.arrays.specs.Weights.{capped}
use Rattle.arrays.proofs.weigh.+null_weight.Given as goal

abbrev pub decreases-null_weight : goal.decreases-null_weight
decreases-null_weight l = 3 * rose_size l.array.now + 1

abbrev pub decreases-null_weight_of : goal.decreases-null_weight_of
decreases-null_weight_of l = 3 * suc (roses_size (kids_of l.children.now))

abbrev pub decreases-null_weights : goal.decreases-null_weights
decreases-null_weights l = 3 * roses_size (kids_of l.children.now) + 2

abbrev pub invariant-null_weights-loop-child : goal.invariant-null_weights-loop-child
invariant-null_weights-loop-child l =
    (capped (l.sum + null_weights (layouts_of (kids_of (drop l.child-index l.children)))) ≡ capped
    (1 + null_weights (layouts_of (kids_of l.children))))
    × (l.sum ≤ max_cell_weight + 1)
