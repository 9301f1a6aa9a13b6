use Rattle.std.proofs.Common.{arith}
use Rattle.body_writer.proofs.BoundedRows.{covers_more}
use Rattle.body_writer.proofs.weighing.bound_rows.Goals as goal

pub loop-column-preserved : goal.loop-column-preserved
loop-column-preserved c = (
  covers_more c.loop-column.sum c.loop-column.column-index c.weight_bound-sum.result c.args.columns.now
      c.column-item.result c.column-item.is c.loop-column-test.true c.weight_bound-sum.ensures.each
      (omega arith) c.loop-column.invariant.0,
  omega arith,
)
