use Rattle.std.proofs.Common.{◌≡◌, ◌+◌, ◌*◌, drop}
use Rattle.values.specs.Rose.{kids_of, join, rose_size, roses_size}
use Rattle.values.specs.Logical.{trees_of}
use Rattle.schema_meta.proofs.layouts.+layouts.Given as goal

abbrev pub decreases-layout_tree : goal.decreases-layout_tree
decreases-layout_tree l = 2 * rose_size l.field.now

abbrev pub decreases-layout_trees : goal.decreases-layout_trees
decreases-layout_trees l = 2 * roses_size (kids_of l.fields.now) + 1

abbrev pub invariant-layout_trees-loop-field : goal.invariant-layout_trees-loop-field
invariant-layout_trees-loop-field l =
    join l.trees.items (trees_of (kids_of (drop l.field-index l.fields))) ≡ trees_of (kids_of l.fields)
