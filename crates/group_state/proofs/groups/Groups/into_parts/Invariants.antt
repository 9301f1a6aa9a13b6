use Rattle.std.proofs.Common.{◌≡◌, ◌++◌, map}
use Rattle.std.specs.List.{All}
use Rattle.group_state.specs.GroupParts.{IsGroup, group_with}
use Rattle.group_state.proofs.groups.Groups.into_parts.Given as goal

abbrev pub invariant-loop-tuple : goal.invariant-loop-tuple
invariant-loop-tuple l =
    (map group_with l.taken.items ++ l.tuple-iterator ≡ l.fn.self.groups) × All IsGroup l.taken.items
