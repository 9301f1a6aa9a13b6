use Rattle.std.proofs.Common.{◌≡◌, ◌+◌, ◌*◌, ◌-◌, drop, suc}
use Rattle.values.specs.Reading.{IsValid, with_front, each}
use Rattle.values.specs.Rose.{kids_of, rose_size, roses_size}
use Rattle.array_layout.specs.Cells.{cell, row}
use Rattle.arrays.proofs.read.+read.Given as goal

abbrev pub decreases-read : goal.decreases-read
decreases-read l = 5 * rose_size l.array.now + 1

abbrev pub decreases-read_slot : goal.decreases-read_slot
decreases-read_slot l = 5 * suc (roses_size (kids_of l.children.now))

abbrev pub decreases-read_value : goal.decreases-read_value
decreases-read_value l = 5 * roses_size (kids_of l.children.now) + 4

abbrev pub decreases-read_list : goal.decreases-read_list
decreases-read_list l = 5 * roses_size (kids_of l.children.now) + 3

abbrev pub decreases-read_items : goal.decreases-read_items
decreases-read_items l = 5 * rose_size l.array.now + 2

abbrev pub decreases-read_row : goal.decreases-read_row
decreases-read_row l = 5 * roses_size (kids_of l.children.now) + 3

abbrev pub invariant-read_items-loop-i : goal.invariant-read_items-loop-i
invariant-read_items-loop-i l =
    IsValid (each (cell l.body l.array) l.i (l.to - l.i))
    × (with_front l.items.items (each (cell l.body l.array) l.i (l.to - l.i)) ≡ each (cell l.body l.array) l.from
    (l.to - l.from))

abbrev pub invariant-read_row-loop-child : goal.invariant-read_row-loop-child
invariant-read_row-loop-child l =
    IsValid (row l.body (kids_of (drop l.child-index l.children)) l.i)
    × (with_front l.cells.items (row l.body (kids_of (drop l.child-index l.children)) l.i) ≡ row l.body
    (kids_of l.children) l.i)
