use Rattle.group_state.specs.Numbers.{numbered}
use Rattle.group_state.proofs.Poured.{Takes}
use Rattle.group_state.proofs.multiset.Multiset.give_up_numbers.Given as goal

abbrev pub invariant-loop-number : goal.invariant-loop-number
invariant-loop-number l = Takes l.fn.self l.other (numbered l.number-iterator) l.self
