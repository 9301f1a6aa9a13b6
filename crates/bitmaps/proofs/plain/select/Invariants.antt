use Rattle.std.proofs.Common.{◌≡◌, ◌++◌, drop, length}
use Rattle.bitmaps.specs.Bits.{selected}
use Rattle.bitmaps.proofs.plain.select.Given as goal

abbrev pub invariant-loop-i : goal.invariant-loop-i
invariant-loop-i l = record {
  made : l.made ++ selected (drop l.i l.mask) (drop l.i l.yes) (drop l.i l.no) ≡ selected (l.mask) (l.yes) (l.no);
  count : length l.made ≡ l.i;
}
