use Rattle.std.proofs.Common.{◌≡◌, ◌≤◌, drop}
use Rattle.body_writer.specs.RowRanges.{ranges_rows}
use Rattle.stream_writer.proofs.range_rows.find_range.Given as goal

abbrev pub invariant-loop-i : goal.invariant-loop-i
invariant-loop-i l = record {
  rows : drop l.start (ranges_rows (drop l.i l.ranges)) ≡ drop l.fn.from (ranges_rows l.ranges);
  bound : l.start ≤ l.fn.from;
}
