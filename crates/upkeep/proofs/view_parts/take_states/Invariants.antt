use Rattle.std.proofs.Common.{◌≡◌, ◌++◌, map}
use Rattle.std.specs.List.{All}
use Rattle.upkeep.specs.ViewParts.{IsState, state_with}
use Rattle.upkeep.proofs.view_parts.take_states.Given as goal

abbrev pub invariant-loop-state : goal.invariant-loop-state
invariant-loop-state l =
    (map state_with l.taken.items ++ l.state-iterator.rest.items ≡ l.fn.states.items) × All IsState l.taken.items
