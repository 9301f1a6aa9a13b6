use Rattle.std.proofs.Common.{◌≡◌, ◌++◌, map}
use Rattle.group_order.specs.RankedParts.{entry_with}
use Rattle.group_order.proofs.group_entries.parts_of.Given as goal

abbrev pub invariant-loop-entry : goal.invariant-loop-entry
invariant-loop-entry l = map entry_with l.parts.items ++ l.entry-iterator ≡ l.fn.entries.keys
