use Rattle.std.proofs.Common.{arith}
use Rattle.body_writer.proofs.WeighedRows.{cell_there, weighs-heavy, weighs-over, weighs-more}
use Rattle.body_writer.proofs.weighing.weigh_row.Goals as goal

pub returns-then-weight-gt-MAX_CELL_WEIGHT-clause-heavy : goal.returns-then-weight-gt-MAX_CELL_WEIGHT-clause-heavy
returns-then-weight-gt-MAX_CELL_WEIGHT-clause-heavy c = λ same.
    weighs-heavy c.loop-column.sum c.loop-column.column-index c.args.index c.weight-weight.result c.args.columns.now
    c.args.columns.now
    c.column-item.result c.column-item.is c.loop-column-test.true
    (cell_there _ _ _ _ c.column-item.is c.loop-column-test.true c.requires) c.weight-weight.ensures
    c.if-weight-gt-MAX_CELL_WEIGHT.true c.loop-column.invariant

pub returns-then-sum-gt-MAX_ROW_WEIGHT-clause-heavy : goal.returns-then-sum-gt-MAX_ROW_WEIGHT-clause-heavy
returns-then-sum-gt-MAX_ROW_WEIGHT-clause-heavy c = λ same.
    weighs-over c.loop-column.sum c.loop-column.column-index c.args.index c.weight-weight.result c.args.columns.now
    c.args.columns.now
    c.column-item.result c.column-item.is c.loop-column-test.true
    (cell_there _ _ _ _ c.column-item.is c.loop-column-test.true c.requires) c.weight-weight.ensures (omega arith)
    (omega arith) c.loop-column.invariant

pub loop-column-preserved : goal.loop-column-preserved
loop-column-preserved c =
    weighs-more c.loop-column.sum c.loop-column.column-index c.args.index c.weight-weight.result c.args.columns.now
    c.args.columns.now
    c.column-item.result c.column-item.is c.loop-column-test.true
    (cell_there _ _ _ _ c.column-item.is c.loop-column-test.true c.requires) c.weight-weight.ensures (omega arith)
    (omega arith) c.loop-column.invariant
