use Rattle.std.proofs.Common.{◌≡◌, length}
use Rattle.bitmaps.specs.Blocks.{IsBegun}
use Rattle.bitmaps.proofs.gather.push_bits.Given as goal

abbrev pub invariant-loop-i : goal.invariant-loop-i
invariant-loop-i g l = record {
  begun : IsBegun l.made (g.S.Source.bits l.source);
  count : length l.made ≡ l.i;
}
