use Rattle.group_state.proofs.Poured.{Adds}
use Rattle.group_state.proofs.multiset.Multiset.take_in_many.Given as goal

abbrev pub invariant-loop-key : goal.invariant-loop-key
invariant-loop-key l = Adds l.fn.self l.other l.key-iterator l.self
