use Rattle.std.proofs.Common.{◌≡◌, ◌≤◌, ◌++◌, length}
use Rattle.std.specs.List.{filter_map}
use Rattle.group_state.specs.Aggregates.{seen_at}
use Rattle.group_order.specs.EntryForms.{ShortPair}
use Rattle.group_order.proofs.group_entries.rows_of_pairs.Given as goal

abbrev pub invariant-loop-key : goal.invariant-loop-key
invariant-loop-key l =
    (length l.made.items ≤ l.most)
    × (l.made.items ++ filter_map (λ (p : ShortPair). seen_at l.outputs l.groups p.1) l._key-iterator
    ≡ filter_map (λ (p : ShortPair). seen_at l.outputs l.groups p.1) l.pairs.keys)
