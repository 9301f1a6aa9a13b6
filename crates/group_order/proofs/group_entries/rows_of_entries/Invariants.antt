use Rattle.std.proofs.Common.{◌≡◌, ◌≤◌, ◌++◌, length}
use Rattle.std.specs.List.{filter_map}
use Rattle.group_state.specs.Aggregates.{seen_at}
use Rattle.group_order.specs.GroupEntries.{GroupEntry}
use Rattle.group_order.proofs.group_entries.rows_of_entries.Given as goal

abbrev pub invariant-loop-entry : goal.invariant-loop-entry
invariant-loop-entry l =
    (length l.made.items ≤ l.most)
    × (l.made.items ++ filter_map (λ (p : GroupEntry). seen_at l.outputs l.groups p.1) l.entry-iterator
    ≡ filter_map (λ (p : GroupEntry). seen_at l.outputs l.groups p.1) l.entries.keys)
