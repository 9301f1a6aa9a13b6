use Rattle.std.proofs.Common.{◌≡◌, ◌++◌, map}
use Rattle.group_state.specs.GroupParts.{count_with}
use Rattle.group_state.proofs.few_values.FewValues.from_parts.Given as goal

abbrev pub invariant-loop-value : goal.invariant-loop-value
invariant-loop-value l =
    l.made.items ++ map count_with l.value-iterator.rest.items ≡ map count_with l.fn.parts.counts.items
