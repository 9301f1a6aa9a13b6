use Rattle.std.proofs.Common.{◌-◌, ◌≤◌}
use Rattle.values.specs.Reading.{Decides, each}
use Rattle.array_layout.specs.Buffers.{slice_at}
use Rattle.array_layout.specs.Cells.{text_of}
use Rattle.arrays.specs.Ranges.{where_valid}
use Rattle.arrays.proofs.texts.validate_texts.Given as goal

abbrev pub invariant-loop-at : goal.invariant-loop-at
invariant-loop-at l = (l.from ≤ l.at) × (l.at ≤ l.to)
    × Decides (each (where_valid l.bits (λ i. text_of (slice_at l.width l.offsets l.values i))) l.at (l.to - l.at))
    (each (where_valid l.bits (λ i. text_of (slice_at l.width l.offsets l.values i))) l.from (l.to - l.from))

abbrev pub decreases-loop-at : goal.decreases-loop-at
decreases-loop-at l = l.to - l.at
