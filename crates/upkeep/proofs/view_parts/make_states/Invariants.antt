use Rattle.std.proofs.Common.{◌≡◌, ◌++◌, map}
use Rattle.std.specs.List.{All}
use Rattle.upkeep.specs.ViewParts.{IsState, state_with}
use Rattle.upkeep.proofs.view_parts.make_states.Given as goal

abbrev pub invariant-loop-state : goal.invariant-loop-state
invariant-loop-state l =
    (l.states.items ++ map state_with l.state-iterator.rest.items ≡ map state_with l.fn.parts.items)
    × All IsState l.state-iterator.rest.items
