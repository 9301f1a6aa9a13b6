use Rattle.std.proofs.Common.{◌≡◌, true}
use Rattle.array_layout.specs.Buffers.{offset_at, is_rising}
use Rattle.array_layout.proofs.check.rises.Given as goal

abbrev pub invariant-loop-i : goal.invariant-loop-i
invariant-loop-i l = (l.before ≡ offset_at l.width l.offsets l.i) × (is_rising l.width l.offsets l.i ≡ true)
