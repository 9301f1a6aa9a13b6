use Rattle.std.proofs.Common.{drop}
use Rattle.body_writer.proofs.WeighedRows.{Weighs}
use Rattle.body_writer.proofs.weighing.weigh_row.Given as goal

abbrev pub invariant-loop-column : goal.invariant-loop-column
invariant-loop-column l = Weighs l.sum (drop l.column-index l.columns) l.columns l.index
