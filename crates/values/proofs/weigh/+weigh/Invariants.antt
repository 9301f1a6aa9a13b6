use Rattle.std.proofs.Common.{◌≡◌, ◌+◌, ◌*◌, ◌<◌, ◌^◌, drop}
use Rattle.values.specs.Rose.{kids_of, rose_size, roses_size}
use Rattle.values.specs.Datum.{items_of}
use Rattle.values.specs.Layouts.{row_weight}
use Rattle.values.specs.Weights.{saturated, weights}
use Rattle.values.proofs.weigh.+weigh.Given as goal

abbrev pub decreases-weight : goal.decreases-weight
decreases-weight l = 8 * rose_size l.layout.now

abbrev pub decreases-weigh_by : goal.decreases-weigh_by
decreases-weigh_by l = 8 * roses_size (kids_of l.children.now) + 5

abbrev pub decreases-weigh_struct : goal.decreases-weigh_struct
decreases-weigh_struct l = 8 * roses_size (kids_of l.children.now) + 4

abbrev pub decreases-weigh_items : goal.decreases-weigh_items
decreases-weigh_items l = 8 * roses_size (kids_of l.children.now) + 3

abbrev pub decreases-row_weight : goal.decreases-row_weight
decreases-row_weight l = 8 * roses_size (kids_of l.layouts.now) + 3

abbrev pub decreases-weigh_all : goal.decreases-weigh_all
decreases-weigh_all l = 8 * rose_size l.layout.now + 1

abbrev pub invariant-weigh_all-loop-item : goal.invariant-weigh_all-loop-item
invariant-weigh_all-loop-item l =
    (saturated (l.sum + weights l.layout (drop l.item-index l.items)) ≡ saturated (weights l.layout l.items))
    × (l.sum < 2 ^ 64)

abbrev pub invariant-row_weight-loop-j : goal.invariant-row_weight-loop-j
invariant-row_weight-loop-j l =
    (saturated (l.sum + row_weight (kids_of (drop l.j l.layouts)) (items_of (drop l.j l.row))) ≡ saturated
    (row_weight (kids_of l.layouts) (items_of l.row))) × (l.sum < 2 ^ 64)
