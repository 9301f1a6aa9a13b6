use Rattle.std.proofs.Common.{ap, arith, subst, sym, ◌∙◌}
use Rattle.values.proofs.Roses.{kids_end, kids_step}
use Rattle.array_layout.specs.Placing.{layout_of}
use Rattle.array_layout.specs.Typed.{IsTyped}
use Rattle.column_merge.proofs.Places.{nodes_step, ranges_step}
use Rattle.column_merge.proofs.BodyColumns.{between_end, between_more, layouts_more, placed-layout, placed-typed}
use Rattle.column_merge.proofs.merge.read_columns.Goals as goal

pub check_column-requires-clause-dictionary : goal.check_column-requires-clause-dictionary
check_column-requires-clause-dictionary c =
    subst IsTyped (sym c.in_ok-array.ensures.array)
    (placed-typed c.args.body.nodes.items c.args.body.ranges.items c.loop-tree.at.node c.loop-tree.at.range
    c.tree-item.result)

pub loop-tree-preserved : goal.loop-tree-preserved
loop-tree-preserved c =
    let trees = c.args.layouts.now in
    let k = c.loop-tree.tree-index in
    let x = c.tree-item.result in
    let at = c.loop-tree.invariant in
    let placed = c.in_ok-array.ensures in
    let column = c.in_ok-check_column in
    let nodes = nodes_step trees k x x c.tree-item.is c.loop-tree-test.true in
    let ranges = ranges_step trees k x x c.tree-item.is c.loop-tree-test.true in
    rw c.in_ok-push.ensures.items (
      between_more c.in_ok-bytes.bytes.value.items c.args.body.nodes.items c.args.body.ranges.items
          c.loop-tree.at.node c.loop-tree.at.range c.place.new.at.node c.place.new.at.range x _ _ c.in_ok-array.array
          c.loop-tree.columns.items column.field-0 _
          (kids_step trees k x x c.tree-item.is c.loop-tree-test.true) placed.array placed.node placed.range
          column.ensures.reading at.0,
      layouts_more trees k x x c.loop-tree.columns.items column.field-0 c.tree-item.is c.loop-tree-test.true
          (column.ensures.typed ∙ ap layout_of placed.array
          ∙ placed-layout c.args.body.nodes.items c.args.body.ranges.items c.loop-tree.at.node c.loop-tree.at.range x)
          at.1,
      omega (arith, nodes, placed.node, at.2),
      omega (arith, ranges, placed.range, at.3),
    )

pub returns-clause-reading : goal.returns-clause-reading
returns-clause-reading c =
    let left = kids_end c.args.layouts.now c.loop-tree.tree-index (omega (arith, c.loop-tree-test.false)) in
    let whole = between_end c.in_ok-bytes.bytes.value.items c.args.body.nodes.items c.args.body.ranges.items
    c.loop-tree.at.node c.loop-tree.at.range _ c.loop-tree.columns.items _ left c.loop-tree.invariant.0 in
    rw c.in_ok-bytes.ensures.ok at whole
