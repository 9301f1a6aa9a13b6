use Rattle.std.proofs.Common.{◌≡◌, ◌+◌, ◌-◌, ◌≤◌}
use Rattle.bitmaps.specs.Bits.{bits_at, ones}
use Rattle.bitmaps.proofs.bits.count_few.Given as goal

abbrev pub invariant-loop-i : goal.invariant-loop-i
invariant-loop-i l = record {
  count : l.count + ones (bits_at l.bytes (l.offset + l.i) (l.len - l.i)) ≡ ones (bits_at l.bytes l.offset l.len);
  bound : l.count ≤ l.i;
  within : l.i ≤ l.len;
}

abbrev pub decreases-loop-i : goal.decreases-loop-i
decreases-loop-i l = l.len - l.i
