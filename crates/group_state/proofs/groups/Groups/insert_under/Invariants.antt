use Rattle.group_state.proofs.Under.{Walks}
use Rattle.group_state.proofs.groups.Groups.insert_under.Given as goal

abbrev pub invariant-loop-tuple : goal.invariant-loop-tuple
invariant-loop-tuple l = Walks l.first l.self.groups l.tuple-iterator l.fn.tuples.keys l.tuples.keys
