use Rattle.schema_meta.specs.Rows.{row_at}
use Rattle.body_writer.specs.RowRanges.{cells_in}
use Rattle.body_writer.specs.Heavy.{layouts_in}
use Rattle.stream_writer.proofs.RowWeights.{weight-is, weights-end, weights-more}
use Rattle.stream_writer.proofs.weighing.push_weights.Goals as goal

pub loop-index-preserved : goal.loop-index-preserved
loop-index-preserved c =
    let l = c.loop-index in
    let ls = layouts_in c.args.columns.now in
    let cells = cells_in c.args.columns.now in
    weights-more ls cells l.index c.args.count c.unwrap-weight.result l.weights.items c.push.new.self.items _
    c.loop-index-test.true
    (weight-is ls (row_at cells l.index) c.weigh_row.result c.unwrap-weight.result c.unwrap-weight.ensures
    c.weigh_row.ensures.light)
    c.in_ok-push.ensures.items l.invariant

pub returns : goal.returns
returns c =
    weights-end (layouts_in c.args.columns.now) (cells_in c.args.columns.now) c.loop-index.index c.args.count
    c.loop-index.weights.items _
    c.loop-index-test.false
    c.loop-index.invariant
