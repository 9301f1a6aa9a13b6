use Rattle.std.proofs.Common.{◌≡◌}
use Rattle.dictionaries.proofs.dictionaries.Dicts.count_slots.Given as goal

abbrev pub invariant-loop-i : goal.invariant-loop-i
invariant-loop-i l = l.self-inside.by_id.entries ≡ l.fn.self.entries
