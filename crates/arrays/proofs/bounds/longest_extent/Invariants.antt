use Rattle.std.proofs.Common.{◌≡◌, ℕ, ◌<◌, ◌≤◌}
use Rattle.array_layout.specs.Buffers.{offset_at}
use Rattle.arrays.specs.Weights.{extent}
use Rattle.arrays.proofs.bounds.longest_extent.Given as goal

abbrev pub invariant-loop-i : goal.invariant-loop-i
invariant-loop-i l =
    ((k : ℕ) → k < l.i → extent l.width l.offsets k ≤ l.longest) × (l.start ≡ offset_at l.width l.offsets l.i)
