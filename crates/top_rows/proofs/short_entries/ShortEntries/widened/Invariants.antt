use Rattle.std.proofs.Common.{◌≡◌, ◌++◌, map}
use Rattle.top_rows.specs.ShortEntries.{short_entry}
use Rattle.top_rows.proofs.short_entries.ShortEntries.widened.Given as goal

abbrev pub invariant-loop-keys : goal.invariant-loop-keys
invariant-loop-keys g l =
    l.entries.keys ++ map (short_entry g.K.ShortKeys.sort_keys) l.keys-iterator ≡ l.self
