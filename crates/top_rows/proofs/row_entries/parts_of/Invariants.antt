use Rattle.std.proofs.Common.{◌≡◌, ◌++◌, map}
use Rattle.top_rows.specs.OrderParts.{entry_with}
use Rattle.top_rows.proofs.row_entries.parts_of.Given as goal

abbrev pub invariant-loop-entry : goal.invariant-loop-entry
invariant-loop-entry l = map entry_with l.parts.items ++ l.entry-iterator ≡ l.fn.entries.keys
