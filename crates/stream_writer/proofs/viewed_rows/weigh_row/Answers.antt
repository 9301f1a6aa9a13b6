use Rattle.std.proofs.Common.{arith, sym}
use Rattle.values.specs.Rose.{kids_of}
use Rattle.stream_writer.proofs.ViewLemmas.{weighs-next}
use Rattle.stream_writer.proofs.viewed_rows.weigh_row.Goals as goal

pub overflow_add-sum : goal.overflow_add-sum
overflow_add-sum c =
    let next =
    weighs-next c.args.layouts.now c.args.columns.now c.args.index c.loop-j.j c.loop-j.sum c.weigh_cell-sum.result
    c.index-layouts-j.result c.tree.inside.layout (kids_of c.tree.inside.children.items) c.index-columns-j.result
    c.index.result.now c.requires.flat c.requires.many c.requires.there c.loop-j-test.true c.index-layouts-j.is
    (sym c.tree.view_is) c.index-columns-j.is c.index.ensures c.weigh_cell-sum.ensures c.loop-j.invariant in
    let light = c.requires.light in
    omega (arith, next, light)

pub loop-j-preserved : goal.loop-j-preserved
loop-j-preserved c =
    weighs-next c.args.layouts.now c.args.columns.now c.args.index c.loop-j.j c.loop-j.sum c.weigh_cell-sum.result
    c.index-layouts-j.result c.tree.inside.layout (kids_of c.tree.inside.children.items) c.index-columns-j.result
    c.index.result.now c.requires.flat c.requires.many c.requires.there c.loop-j-test.true c.index-layouts-j.is
    (sym c.tree.view_is) c.index-columns-j.is c.index.ensures c.weigh_cell-sum.ensures c.loop-j.invariant
