use Rattle.std.proofs.Common.{◌-◌, true}
use Rattle.values.specs.Reading.{Decides, each}
use Rattle.array_layout.specs.Buffers.{number_at}
use Rattle.array_layout.specs.Cells.{decimal_of}
use Rattle.arrays.specs.Ranges.{where_valid}
use Rattle.arrays.proofs.decimals.validate_decimals.Given as goal

abbrev pub invariant-loop-i : goal.invariant-loop-i
invariant-loop-i l =
    Decides (each (where_valid l.bits (λ i. decimal_of l.precision (number_at true 16 l.values i))) l.i (l.to - l.i))
    (each (where_valid l.bits (λ i. decimal_of l.precision (number_at true 16 l.values i))) l.from (l.to - l.from))
