use Rattle.std.proofs.Common.{◌≡◌, ◌+◌, ◌*◌, ◌-◌, ◌≤◌, drop, suc}
use Rattle.values.specs.Limits.{max_cell_weight}
use Rattle.values.specs.Rose.{kids_of, rose_size, roses_size}
use Rattle.arrays.specs.Weights.{capped, sum_from, weight_at, weight_beside}
use Rattle.arrays.proofs.weigh.+weigh.Given as goal

abbrev pub decreases-weigh : goal.decreases-weigh
decreases-weigh l = 5 * rose_size l.array.now + 1

abbrev pub decreases-weigh_slot : goal.decreases-weigh_slot
decreases-weigh_slot l = 5 * suc (roses_size (kids_of l.children.now))

abbrev pub decreases-weigh_value : goal.decreases-weigh_value
decreases-weigh_value l = 5 * roses_size (kids_of l.children.now) + 4

abbrev pub decreases-weigh_list : goal.decreases-weigh_list
decreases-weigh_list l = 5 * roses_size (kids_of l.children.now) + 3

abbrev pub decreases-weigh_items : goal.decreases-weigh_items
decreases-weigh_items l = 5 * rose_size l.array.now + 2

abbrev pub decreases-weigh_row : goal.decreases-weigh_row
decreases-weigh_row l = 5 * roses_size (kids_of l.children.now) + 3

abbrev pub invariant-weigh_items-loop-i : goal.invariant-weigh_items-loop-i
invariant-weigh_items-loop-i l =
    (capped (l.sum + sum_from (weight_at l.body l.array) l.i (l.to - l.i)) ≡ capped
    (5 + sum_from (weight_at l.body l.array) l.from (l.to - l.from)))
    × (l.sum ≤ max_cell_weight + 1)

abbrev pub invariant-weigh_row-loop-child : goal.invariant-weigh_row-loop-child
invariant-weigh_row-loop-child l =
    (capped (l.sum + weight_beside l.body (kids_of (drop l.child-index l.children)) l.i) ≡ capped
    (1 + weight_beside l.body (kids_of l.children) l.i))
    × (l.sum ≤ max_cell_weight + 1)
