use Rattle.std.proofs.Common.{◌+◌, ◌*◌, ◌-◌, ◌≤◌, drop}
use Rattle.values.specs.Reading.{Decides, each}
use Rattle.values.specs.Rose.{kids_of, rose_size, roses_size}
use Rattle.array_layout.specs.Cells.{cell, row, list_of, structure_of, items_at}
use Rattle.arrays.specs.Ranges.{where_valid, columns}
use Rattle.arrays.proofs.validate.+validate.Given as goal

abbrev pub decreases-validate_slots : goal.decreases-validate_slots
decreases-validate_slots l = 6 * rose_size l.array.now

abbrev pub decreases-validate_own : goal.decreases-validate_own
decreases-validate_own l = 6 * roses_size (kids_of l.children.now) + 5

abbrev pub decreases-validate_values : goal.decreases-validate_values
decreases-validate_values l = 6 * roses_size (kids_of l.children.now) + 4

abbrev pub decreases-validate_lists : goal.decreases-validate_lists
decreases-validate_lists l = 6 * rose_size l.items.now + 3

abbrev pub decreases-validate_rows : goal.decreases-validate_rows
decreases-validate_rows l = 6 * roses_size (kids_of l.children.now) + 3

abbrev pub decreases-validate_child : goal.decreases-validate_child
decreases-validate_child l = 6 * rose_size l.child.now + 1

abbrev pub decreases-validate_lists-loop-at : goal.decreases-validate_lists-loop-at
decreases-validate_lists-loop-at l = l.to - l.at

abbrev pub decreases-validate_child-loop-at : goal.decreases-validate_child-loop-at
decreases-validate_child-loop-at l = l.to - l.at

abbrev pub invariant-validate_lists-loop-at : goal.invariant-validate_lists-loop-at
invariant-validate_lists-loop-at l = (l.from ≤ l.at) × (l.at ≤ l.to)
    × Decides
    (each (where_valid l.bits (λ i. list_of (items_at (cell l.body l.items) l.width l.offsets i))) l.at (l.to - l.at))
    (each (where_valid l.bits (λ i. list_of (items_at (cell l.body l.items) l.width l.offsets i))) l.from
    (l.to - l.from))

abbrev pub invariant-validate_rows-loop-child : goal.invariant-validate_rows-loop-child
invariant-validate_rows-loop-child l =
    Decides (columns l.body l.bits (kids_of (drop l.child-index l.children)) l.from (l.to - l.from))
    (each (where_valid l.bits (λ i. structure_of (row l.body (kids_of l.children) i))) l.from (l.to - l.from))

abbrev pub invariant-validate_child-loop-at : goal.invariant-validate_child-loop-at
invariant-validate_child-loop-at l = (l.from ≤ l.at) × (l.at ≤ l.to)
    × Decides (each (where_valid l.bits (cell l.body l.child)) l.at (l.to - l.at))
    (each (where_valid l.bits (cell l.body l.child)) l.from (l.to - l.from))
