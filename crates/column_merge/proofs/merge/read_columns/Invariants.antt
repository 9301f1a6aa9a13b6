use Rattle.std.proofs.Common.{◌≡◌, ◌+◌, drop, take}
use Rattle.std.specs.Prelude.{map}
use Rattle.values.specs.Rose.{kids_of, roses_size}
use Rattle.array_layout.specs.Placing.{placed_all, ranges_below}
use Rattle.schema_meta.specs.Rows.{columns_in}
use Rattle.column_merge.proofs.BodyColumns.{IsBetween}
use Rattle.column_merge.proofs.merge.read_columns.Given as goal

abbrev pub invariant-loop-tree : goal.invariant-loop-tree
invariant-loop-tree l =
    IsBetween l.bytes.value.items l.body.nodes.items l.body.ranges.items l.at.node l.at.range
    (kids_of (drop l.tree-index l.layouts)) l.columns.items
    (columns_in l.bytes.value.items (placed_all l.body.nodes.items l.body.ranges.items 0 0 (kids_of l.layouts)))
    × (map (λ c. c.layouts) l.columns.items ≡ take l.tree-index l.layouts)
    × (l.at.node + roses_size (kids_of (drop l.tree-index l.layouts)) ≡ roses_size (kids_of l.layouts))
    × (l.at.range + ranges_below (kids_of (drop l.tree-index l.layouts)) ≡ ranges_below (kids_of l.layouts))
