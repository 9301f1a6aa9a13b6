use Rattle.std.proofs.Common.{◌≡◌, ◌++◌, map}
use Rattle.std.specs.List.{All}
use Rattle.group_state.specs.GroupParts.{IsTally, tally_with}
use Rattle.group_state.proofs.group.Group.into_parts.Given as goal

abbrev pub invariant-loop-tally : goal.invariant-loop-tally
invariant-loop-tally l =
    (map tally_with l.taken.items ++ l.tally-iterator.rest.items ≡ l.fn.self.tallies)
    × All IsTally l.taken.items
