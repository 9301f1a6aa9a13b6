use Rattle.std.proofs.Common.{◌≤◌, length}
use Rattle.row_keys.proofs.stored_rows.tail_start.Given as goal

abbrev pub invariant-loop-at : goal.invariant-loop-at
invariant-loop-at l = l.at ≤ length l.gone

abbrev pub decreases-loop-at : goal.decreases-loop-at
decreases-loop-at l = l.at
