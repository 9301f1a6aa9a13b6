use Rattle.liveviews.proofs.BufferedLemmas.{Rest}
use Rattle.liveviews.proofs.recasting.batch.columns_law.Given as goal

abbrev pub invariant-loop-column : goal.invariant-loop-column
invariant-loop-column l = Rest l.columns l.column-index
