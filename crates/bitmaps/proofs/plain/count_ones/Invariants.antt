use Rattle.std.proofs.Common.{◌≡◌, ◌+◌, ◌≤◌, drop}
use Rattle.bitmaps.specs.Bits.{ones}
use Rattle.bitmaps.proofs.plain.count_ones.Given as goal

abbrev pub invariant-loop-i : goal.invariant-loop-i
invariant-loop-i l = record {
  count : l.count + ones (drop l.i l.bits) ≡ ones l.bits;
  bound : l.count ≤ l.i;
}
