use Rattle.std.proofs.Common.{◌≡◌, drop}
use Rattle.group_state.specs.Seen.{index_from}
use Rattle.group_state.proofs.group.place.Given as goal

abbrev pub invariant-loop-i : goal.invariant-loop-i
invariant-loop-i l = index_from l.i (drop l.i l.columns) l.column ≡ index_from 0 l.columns l.column
