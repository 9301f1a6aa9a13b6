use Rattle.std.proofs.Common.{◌+◌, ◌*◌, ◌≤◌, drop, suc}
use Rattle.values.specs.Limits.{max_cell_weight}
use Rattle.values.specs.Rose.{kids_of, rose_size, roses_size}
use Rattle.arrays.proofs.BoundLemmas.{Covers}
use Rattle.arrays.proofs.bounds.+bound.Given as goal

abbrev pub decreases-weight_bound : goal.decreases-weight_bound
decreases-weight_bound l = 4 * rose_size l.array.now + 1

abbrev pub decreases-own_bound : goal.decreases-own_bound
decreases-own_bound l = 4 * suc (roses_size (kids_of l.children.now))

abbrev pub decreases-value_bound : goal.decreases-value_bound
decreases-value_bound l = 4 * roses_size (kids_of l.children.now) + 3

abbrev pub decreases-list_bound : goal.decreases-list_bound
decreases-list_bound l = 4 * roses_size (kids_of l.children.now) + 2

abbrev pub decreases-row_bound : goal.decreases-row_bound
decreases-row_bound l = 4 * roses_size (kids_of l.children.now) + 2

abbrev pub invariant-row_bound-loop-child : goal.invariant-row_bound-loop-child
invariant-row_bound-loop-child l =
    Covers l.sum l.body (kids_of (drop l.child-index l.children)) (kids_of l.children) l.count
    × (l.sum ≤ max_cell_weight + 1)
