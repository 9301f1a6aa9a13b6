use Rattle.std.proofs.Common.{◌≡◌, ◌++◌, ◌+◌, ◌≤◌, ℕ, take, drop, All}
use Rattle.body_writer.specs.RowRanges.{IsRange, IsSized, ranges_rows, rows_of}
use Rattle.stream_writer.proofs.batch_rows.ranges_of.Given as goal

abbrev pub invariant-loop-batch : goal.invariant-loop-batch
invariant-loop-batch l = record {
  small : l.start + l.left ≤ l.fn.from + l.fn.count;
  rows : ranges_rows l.ranges.items ++ take l.left (drop l.start (rows_of (drop l.batch-index l.batches)))
      ≡ take l.fn.count (drop l.fn.from (rows_of l.batches));
  sized : (n : ℕ) → All (IsSized n) l.batches → All (IsRange n) l.ranges.items;
}
