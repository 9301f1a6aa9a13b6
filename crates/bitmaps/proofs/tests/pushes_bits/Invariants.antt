use Rattle.std.proofs.Common.{◌≡◌, length}
use Rattle.bitmaps.proofs.tests.pushes_bits.Given as goal

abbrev pub invariant-loop-i : goal.invariant-loop-i
invariant-loop-i g l = length l.made ≡ l.i
