use Rattle.std.proofs.Common.{◌≡◌, ◌++◌, map}
use Rattle.top_rows.specs.ShortEntries.{short_entry, sort_keys_of_one}
use Rattle.group_order.proofs.group_entries.widened.Given as goal

abbrev pub invariant-loop-key : goal.invariant-loop-key
invariant-loop-key l =
    l.entries.keys ++ map (short_entry sort_keys_of_one) l.key-iterator
    ≡ map (short_entry sort_keys_of_one) l.pairs.keys
