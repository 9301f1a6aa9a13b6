use Rattle.std.proofs.Common.{◌-◌}
use Rattle.values.specs.Reading.{Decides, each}
use Rattle.array_layout.specs.Buffers.{slice_at}
use Rattle.array_layout.specs.Cells.{text_of}
use Rattle.arrays.proofs.texts.validate_run.Given as goal

abbrev pub invariant-loop-i : goal.invariant-loop-i
invariant-loop-i l =
    Decides (each (λ i. text_of (slice_at l.width l.offsets l.values i)) l.i (l.to - l.i))
    (each (λ i. text_of (slice_at l.width l.offsets l.values i)) l.from (l.to - l.from))
