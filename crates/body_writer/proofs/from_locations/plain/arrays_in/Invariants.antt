use Rattle.std.proofs.Common.{◌≡◌, ℕ, ◌<◌, ◌≤◌, Some, length, slice_get}
use denote.Ref.{Bor}
use Rattle.arrays.specs.Checked.{CheckedColumn}
use Rattle.body_writer.specs.Locations.{HasCellsAt}
use Rattle.body_writer.specs.declared.from_columns.batch.Batch.{Batch}
use Rattle.body_writer.proofs.from_locations.plain.arrays_in.Given as goal

abbrev pub invariant-loop-batch : goal.invariant-loop-batch
invariant-loop-batch l = record {
  many : length l.arrays.items ≡ l.batch-index;
  few : length l.arrays.items ≤ length l.batches;
  each : (k : ℕ) (b : Bor Batch) (c : CheckedColumn) → k < l.batch-index → slice_get l.batches k ≡ Some b
      → slice_get b.now.columns.items l.j ≡ Some c → HasCellsAt l.layout c.cells (slice_get l.arrays.items k);
}
