use Rattle.lookups.proofs.Gathered.{was_seen}
use Rattle.lookups.proofs.referrers.Referrers.of_keys.Given as goal
use Rattle.lookups.specs.Refers.{is_among, key_cmp, refers}
use Rattle.std.proofs.Common.{◌≡◌, ℕ, take}
use Rattle.std.specs.BTreeMap.{is_at}
use Rattle.std.specs.List.{list_any}
use Rattle.values.specs.declared.key.Key.{Key}

abbrev pub invariant-loop-key : goal.invariant-loop-key
invariant-loop-key l =
    ((n : ℕ) → is_among l.numbers n ≡ list_any (λ k. refers l.self k n) (take l.key-index l.keys))
    × ((q : Key) → was_seen l.seen.keys q ≡ list_any (is_at (key_cmp q)) (take l.key-index l.keys))
