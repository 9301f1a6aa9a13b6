use Rattle.std.proofs.Common.{◌≡◌, ◌++◌, map}
use Rattle.std.specs.List.{All}
use Rattle.group_state.specs.GroupParts.{IsGroup, group_with}
use Rattle.group_state.proofs.groups.Groups.from_parts.Given as goal

abbrev pub invariant-loop-group : goal.invariant-loop-group
invariant-loop-group l =
    (l.made.entries ++ map group_with l.group-iterator.rest.items ≡ map group_with l.fn.parts.groups.items)
    × All IsGroup l.group-iterator.rest.items
