use Rattle.std.proofs.Common.{◌≡◌, ◌≤◌, length, map, take}
use Rattle.top_rows.proofs.short_entries.first_numbers.Given as goal

abbrev pub invariant-loop-keys : goal.invariant-loop-keys
invariant-loop-keys g l =
    (length l.numbers.items ≡ length l.yielded)
    × ((length l.yielded ≤ l.most)
    × (l.numbers.items ≡ map (λ p. p.1) (take (length l.yielded) l.pairs.keys)))
