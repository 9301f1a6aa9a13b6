use Rattle.std.proofs.Common.{◌≡◌, ◌++◌, map}
use Rattle.std.specs.List.{All}
use Rattle.group_state.specs.GroupParts.{IsTally, tally_with}
use Rattle.group_state.proofs.group.Group.from_parts.Given as goal

abbrev pub invariant-loop-tally : goal.invariant-loop-tally
invariant-loop-tally l =
    (l.made.items ++ map tally_with l.tally-iterator.rest.items ≡ map tally_with l.fn.parts.tallies.items)
    × All IsTally l.tally-iterator.rest.items
