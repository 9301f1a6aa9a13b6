use Rattle.std.proofs.Common.{drop}
use Rattle.group_state.proofs.Poured.{Takes}
use Rattle.group_state.proofs.multiset.Multiset.give_up_few.Given as goal

abbrev pub invariant-loop-place : goal.invariant-loop-place
invariant-loop-place l = Takes l.fn.self l.other (drop l.place l.other) l.self
