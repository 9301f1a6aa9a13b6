use Rattle.group_state.specs.Numbers.{numbered}
use Rattle.group_state.proofs.Poured.{Adds}
use Rattle.group_state.proofs.multiset.Multiset.take_in_numbers.Given as goal

abbrev pub invariant-loop-number : goal.invariant-loop-number
invariant-loop-number l = Adds l.fn.self l.other (numbered l.number-iterator) l.self
