use Rattle.std.proofs.Common.{◌≡◌, ◌++◌, drop, length}
use Rattle.std.specs.Prelude.{◌&&◌}
use Rattle.bitmaps.specs.Bits.{pairwise}
use Rattle.bitmaps.proofs.plain.and.Given as goal

abbrev pub invariant-loop-i : goal.invariant-loop-i
invariant-loop-i l = record {
  made : l.made ++ pairwise (λ x y. x && y) (drop l.i l.first) (drop l.i l.second) ≡ pairwise (λ x y. x
      && y) (l.first) (l.second);
  count : length l.made ≡ l.i;
}
