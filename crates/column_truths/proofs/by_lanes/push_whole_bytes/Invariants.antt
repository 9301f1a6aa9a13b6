use Rattle.std.proofs.Common.{◌≡◌, ◌-◌, ◌%◌, length}
use Rattle.bitmaps.specs.Blocks.{IsBegun}
use Rattle.column_truths.specs.Spans.{lying_in}
use Rattle.column_truths.proofs.by_lanes.push_whole_bytes.Given as goal

abbrev pub invariant-loop-width : goal.invariant-loop-width
invariant-loop-width l = record {
  whole : length l.made % 8 ≡ 0;
  begun : IsBegun l.made (lying_in l.width l.span.low l.span.span l.bytes l.len);
}

abbrev pub decreases-loop-width : goal.decreases-loop-width
decreases-loop-width l = l.len - length l.made
