use Rattle.std.proofs.Common.{◌≡◌, length, take}
use Rattle.dictionaries.proofs.dictionary.Dictionary.copy_values.Given as goal

abbrev pub invariant-loop-i : goal.invariant-loop-i
invariant-loop-i l = (l.values.items ≡ take l.i l.self) × (l.i-end ≡ length l.self)
