use Rattle.std.proofs.Common.{◌≡◌, ◌-◌, ◌%◌, length}
use Rattle.bitmaps.specs.Blocks.{IsBegun}
use Rattle.bitmaps.proofs.gather.push_whole_bytes.Given as goal

abbrev pub invariant-loop-made : goal.invariant-loop-made
invariant-loop-made g l = record {
  whole : length l.made % 8 ≡ 0;
  begun : IsBegun l.made (g.S.Source.bits l.source);
}

abbrev pub decreases-loop-made : goal.decreases-loop-made
decreases-loop-made g l = l.len - length l.made
