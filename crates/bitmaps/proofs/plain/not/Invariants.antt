use Rattle.std.proofs.Common.{◌≡◌, ◌++◌, drop, length}
use Rattle.std.specs.Prelude.{map, not}
use Rattle.bitmaps.proofs.plain.not.Given as goal

abbrev pub invariant-loop-i : goal.invariant-loop-i
invariant-loop-i l = record {
  made : l.made ++ map not (drop l.i l.bits) ≡ map not (l.bits);
  count : length l.made ≡ l.i;
}
