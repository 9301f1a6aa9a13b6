use Rattle.std.proofs.Common.{◌≡◌, ◌++◌, map}
use Rattle.values.specs.declared.key.Key.TheVariants as key
use Rattle.row_keys.proofs.number_keys.NumberKeys.to_mixed.Given as goal

abbrev pub invariant-loop-number : goal.invariant-loop-number
invariant-loop-number l = l.keys ++ map (λ n. key.Int n) l.number-iterator ≡ l.self
