use Rattle.std.proofs.Common.{drop}
use Rattle.group_state.proofs.Poured.{Adds}
use Rattle.group_state.proofs.multiset.Multiset.take_in_few.Given as goal

abbrev pub invariant-loop-place : goal.invariant-loop-place
invariant-loop-place l = Adds l.fn.self l.other (drop l.place l.other) l.self
