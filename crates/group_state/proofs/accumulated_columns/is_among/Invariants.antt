use Rattle.std.proofs.Common.{◌≡◌, drop}
use Rattle.group_state.specs.AccumulatedColumns.{is_accumulated}
use Rattle.group_state.proofs.accumulated_columns.is_among.Given as goal

abbrev pub invariant-loop-i : goal.invariant-loop-i
invariant-loop-i l = is_accumulated (drop l.i l.columns) l.column ≡ is_accumulated l.columns l.column
