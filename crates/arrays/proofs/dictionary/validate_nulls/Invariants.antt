use Rattle.std.proofs.Common.{◌-◌}
use Rattle.std.specs.Prelude.{Err}
use Rattle.values.specs.declared.faults.StreamFault.TheVariants as fault
use Rattle.values.specs.Reading.{Decides, each, one}
use Rattle.arrays.specs.Ranges.{where_valid}
use Rattle.arrays.proofs.dictionary.validate_nulls.Given as goal

abbrev pub invariant-loop-i : goal.invariant-loop-i
invariant-loop-i l =
    Decides (each (where_valid l.bits (λ i. Err (one fault.DictionaryIndex))) l.i (l.to - l.i))
    (each (where_valid l.bits (λ i. Err (one fault.DictionaryIndex))) l.from (l.to - l.from))
