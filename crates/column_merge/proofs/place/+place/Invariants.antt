use Rattle.std.proofs.Common.{◌≡◌, ◌+◌, ◌*◌, drop}
use Rattle.values.specs.Rose.{join, kids_of, rose_size, roses_size}
use Rattle.array_layout.specs.Placing.{placed_all, ranges_below}
use Rattle.column_merge.proofs.place.+place.Given as goal

abbrev pub decreases-place : goal.decreases-place
decreases-place l = 2 * rose_size l.tree.now

abbrev pub decreases-place_all : goal.decreases-place_all
decreases-place_all l = 2 * roses_size (kids_of l.trees.now) + 1

-- what was found, and what remains to be found, are the whole
abbrev pub invariant-place_all-loop-tree : goal.invariant-place_all-loop-tree
invariant-place_all-loop-tree l =
    (join l.arrays.items
    (placed_all l.body.nodes.items l.body.ranges.items l.at.node l.at.range (kids_of (drop l.tree-index l.trees)))
    ≡ placed_all l.body.nodes.items l.body.ranges.items l.initial.at.node l.initial.at.range (kids_of l.trees))
    × (l.at.node + roses_size (kids_of (drop l.tree-index l.trees))
    ≡ l.initial.at.node + roses_size (kids_of l.trees))
    × (l.at.range + ranges_below (kids_of (drop l.tree-index l.trees))
    ≡ l.initial.at.range + ranges_below (kids_of l.trees))
