use Rattle.row_keys.proofs.HeldRows.{Rest}
use Rattle.row_keys.proofs.batches.columns_law.Given as goal

abbrev pub invariant-loop-column : goal.invariant-loop-column
invariant-loop-column l = Rest l.columns l.column-index
