use Rattle.lookups.specs.Refers.{is_among}
use Rattle.std.proofs.Common.{◌≡◌, ◌||◌, ℕ, map}
use Rattle.std.specs.Map.Iter.{deref}
use Rattle.lookups.proofs.numbers.NumberSet.add_all.Given as goal

abbrev pub invariant-loop-number : goal.invariant-loop-number
invariant-loop-number l =
    (n : ℕ) → is_among l.self n ≡ (is_among l.fn.self n || is_among (map deref l.yielded) n)
