use Rattle.std.proofs.Common.{◌-◌}
use Rattle.values.specs.Reading.{Decides, each}
use Rattle.values.specs.declared.layout.Layout.TheVariants.{Int}
use Rattle.array_layout.specs.Cells.{coded_by}
use Rattle.arrays.specs.Ranges.{where_valid}
use Rattle.arrays.proofs.dictionary.validate_numbers.Given as goal

abbrev pub invariant-loop-i : goal.invariant-loop-i
invariant-loop-i l =
    Decides (each (where_valid l.bits (coded_by (Int l.width l.signed) l.dictionary.values l.indices)) l.i (l.to - l.i))
    (each (where_valid l.bits (coded_by (Int l.width l.signed) l.dictionary.values l.indices)) l.from (l.to - l.from))
