use Rattle.std.proofs.Common.{◌≡◌, ◌++◌, List, subst}
use Rattle.arrays.specs.Checked.{CheckedColumn}
use Rattle.schema_meta.specs.Rows.{rows_in}
use Rattle.body_writer.specs.RowRanges.{cells_in}
use Rattle.body_writer.specs.Heavy.{layouts_in}
use Rattle.stream_writer.specs.Weights.{weights_of}
use Rattle.stream_writer.proofs.RowWeights.{batch-more}
use Rattle.stream_writer.proofs.weighing.weights_in.Goals as goal

pub loop-batch-preserved : goal.loop-batch-preserved
loop-batch-preserved c = λ ls all.
    let l = c.loop-batch in
    let b = c.batch-item.result in
    let next = c.push_weights.new.weights.items in
    let P : List CheckedColumn → Type 0 =
    λ cs. next ≡ l.weights.items ++ weights_of (layouts_in cs) (rows_in b.rows (cells_in cs)) in
    batch-more ls c.args.batches.now l.batch-index b l.weights.items next c.loop-batch-test.true c.batch-item.is
    (subst P c.deref.ensures.value c.in_ok-push_weights.ensures) all (l.invariant ls all)
