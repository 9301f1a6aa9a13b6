use Rattle.std.proofs.Common.{◌≡◌, ◌≤◌, drop, length}
use Rattle.body_writer.specs.RowRanges.{rows_of}
use Rattle.stream_writer.proofs.batch_rows.find_row.Given as goal

abbrev pub invariant-loop-i : goal.invariant-loop-i
invariant-loop-i l = record {
  rows : drop l.start (rows_of (drop l.i l.batches)) ≡ drop l.fn.from (rows_of l.batches);
  bound : l.start ≤ l.fn.from;
  place : l.fn.from ≤ length (rows_of l.batches) → l.start ≤ length (rows_of (drop l.i l.batches));
}
