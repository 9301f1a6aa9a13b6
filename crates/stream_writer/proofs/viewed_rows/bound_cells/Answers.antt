use Rattle.stream_writer.proofs.ViewLemmas.{within-all, within-more}
use Rattle.stream_writer.proofs.viewed_rows.bound_cells.Goals as goal

pub loop-cell-preserved : goal.loop-cell-preserved
loop-cell-preserved c =
    within-more c.args.layout c.args.cells.now c.loop-cell.cell-index c.loop-cell.most c.weigh_cell.result
    c.max-most.result c.loop-cell-test.true c.weigh_cell.ensures c.max-most.ensures c.loop-cell.invariant

pub returns : goal.returns
returns c =
    within-all c.args.layout c.args.cells.now c.loop-cell.cell-index c.loop-cell.most c.loop-cell-test.false
    c.loop-cell.invariant
