use Rattle.std.proofs.Common.{arith}
use Rattle.column_merge.proofs.Places.{nodes_step, placed_step, ranges_step}
use Rattle.column_merge.proofs.place.+place.Goals as goal

pub place_all-loop-tree-preserved : goal.place_all-loop-tree-preserved
place_all-loop-tree-preserved t c =
    let trees = c.args.trees.now in
    let k = c.loop-tree.tree-index in
    let x = c.tree-item.result in
    let nodes = nodes_step trees k x x c.tree-item.is c.loop-tree-test.true in
    let ranges = ranges_step trees k x x c.tree-item.is c.loop-tree-test.true in
    rw c.in_ok-push.ensures.items (
      placed_step c.args.body.now.nodes.items c.args.body.now.ranges.items trees k x x
          c.loop-tree.at.node c.loop-tree.at.range c.place.new.at.node c.place.new.at.range c.loop-tree.arrays.items
          c.in_ok-place.field-0 _
          c.tree-item.is c.loop-tree-test.true c.in_ok-place.ensures.array c.in_ok-place.ensures.node
          c.in_ok-place.ensures.range
          c.loop-tree.invariant.0,
      omega (arith, nodes, c.in_ok-place.ensures.node, c.loop-tree.invariant.1),
      omega (arith, ranges, c.in_ok-place.ensures.range, c.loop-tree.invariant.2),
    )
