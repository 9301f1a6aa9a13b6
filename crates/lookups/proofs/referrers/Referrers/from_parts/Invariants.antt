use Rattle.std.proofs.Common.{◌≡◌, ◌++◌, map}
use Rattle.lookups.specs.ReferrersParts.{entry_with}
use Rattle.lookups.proofs.referrers.Referrers.from_parts.Given as goal

abbrev pub invariant-loop-key : goal.invariant-loop-key
invariant-loop-key l = l.rows.entries ++ map entry_with l.key-iterator.rest.items ≡ map entry_with l.fn.parts.keys.items
