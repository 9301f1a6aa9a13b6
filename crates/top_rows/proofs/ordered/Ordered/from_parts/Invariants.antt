use Rattle.std.proofs.Common.{◌≡◌, ◌++◌, map}
use Rattle.top_rows.specs.OrderParts.{entry_with}
use Rattle.top_rows.proofs.ordered.Ordered.from_parts.Given as goal

abbrev pub invariant-loop-entry : goal.invariant-loop-entry
invariant-loop-entry l =
    l.placed ++ map entry_with l.entry-iterator.rest.items ≡ map entry_with l.fn.parts.order_entries.items
