use Rattle.std.proofs.Common.{◌≡◌, ◌≤◌, ◌+◌, ◌-◌, drop}
use Rattle.values.specs.Limits.{max_batch_rows, max_batch_weight}
use Rattle.values.specs.Rose.{kids_of}
use Rattle.body_writer.proofs.Rows.{cells_in}
use Rattle.stream_writer.specs.Stream.{beginning}
use Rattle.stream_writer.proofs.rows.len_of_batch.Given as goal

abbrev pub invariant-loop-row : goal.invariant-loop-row
invariant-loop-row l = record {
  index : l.count ≡ l.row-index;
  few : l.count ≤ max_batch_rows;
  value : l.count + beginning (kids_of l.layouts) (max_batch_rows - l.count) l.room
      (cells_in (drop l.row-index l.rows)) ≡ beginning (kids_of l.layouts) max_batch_rows max_batch_weight
      (cells_in l.rows);
}
