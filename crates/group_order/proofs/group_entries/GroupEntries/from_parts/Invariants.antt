use Rattle.std.proofs.Common.{◌≡◌, ◌++◌, map}
use Rattle.group_order.specs.RankedParts.{entry_with}
use Rattle.group_order.proofs.group_entries.GroupEntries.from_parts.Given as goal

abbrev pub invariant-loop-entry : goal.invariant-loop-entry
invariant-loop-entry l =
    l.entries.keys ++ map entry_with l.entry-iterator.rest.items ≡ map entry_with l.fn.parts.items
