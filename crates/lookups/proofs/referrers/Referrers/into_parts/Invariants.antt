use Rattle.std.proofs.Common.{◌≡◌, ◌++◌, map}
use Rattle.lookups.specs.ReferrersParts.{entry_with}
use Rattle.lookups.proofs.referrers.Referrers.into_parts.Given as goal

abbrev pub invariant-loop-key : goal.invariant-loop-key
invariant-loop-key l = map entry_with l.keys.items ++ l.key-iterator ≡ l.fn.self
