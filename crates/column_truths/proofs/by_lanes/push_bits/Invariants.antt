use Rattle.std.proofs.Common.{◌≡◌, length}
use Rattle.bitmaps.specs.Blocks.{IsBegun}
use Rattle.column_truths.specs.Spans.{lying_in}
use Rattle.column_truths.proofs.by_lanes.push_bits.Given as goal

abbrev pub invariant-loop-i : goal.invariant-loop-i
invariant-loop-i l = record {
  begun : IsBegun l.made (lying_in l.width l.span.low l.span.span l.bytes l.len);
  count : length l.made ≡ l.i;
}
