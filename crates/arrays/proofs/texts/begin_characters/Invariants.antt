use Rattle.std.proofs.Common.{ℕ, ◌-◌, ◌<◌, ◌≤◌}
use Rattle.std.specs.Str.{IsCharBoundary}
use Rattle.array_layout.specs.Buffers.{offset_at}
use Rattle.arrays.proofs.texts.begin_characters.Given as goal

abbrev pub invariant-loop-i : goal.invariant-loop-i
invariant-loop-i l = (k : ℕ) → l.from ≤ k → k < l.i
    → IsCharBoundary l.text (offset_at l.width l.offsets k - offset_at l.width l.offsets l.from)
