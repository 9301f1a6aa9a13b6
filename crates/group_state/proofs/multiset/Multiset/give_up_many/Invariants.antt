use Rattle.group_state.proofs.Poured.{Takes}
use Rattle.group_state.proofs.multiset.Multiset.give_up_many.Given as goal

abbrev pub invariant-loop-key : goal.invariant-loop-key
invariant-loop-key l = Takes l.fn.self l.other l.key-iterator l.self
