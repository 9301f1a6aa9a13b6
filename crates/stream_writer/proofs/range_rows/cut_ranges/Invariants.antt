use Rattle.std.proofs.Common.{◌≡◌, ◌++◌, ◌+◌, ◌≤◌, ℕ, take, drop, All}
use Rattle.body_writer.specs.RowRanges.{IsRange, ranges_rows}
use Rattle.stream_writer.proofs.range_rows.cut_ranges.Given as goal

abbrev pub invariant-loop-range : goal.invariant-loop-range
invariant-loop-range l = record {
  small : l.start + l.left ≤ l.fn.from + l.fn.count;
  rows : ranges_rows l.cut.items ++ take l.left (drop l.start (ranges_rows (drop l.range-index l.ranges)))
      ≡ take l.fn.count (drop l.fn.from (ranges_rows l.ranges));
  sized : (n : ℕ) → All (IsRange n) l.ranges → All (IsRange n) l.cut.items;
}
