use Rattle.std.proofs.Common.{◌≡◌}
use Rattle.dictionaries.specs.Runs.{counted}
use Rattle.dictionaries.proofs.run_ends.count_ends.Given as goal

abbrev pub invariant-loop-i : goal.invariant-loop-i
invariant-loop-i l = l.ends.items ≡ counted 0 l.i
