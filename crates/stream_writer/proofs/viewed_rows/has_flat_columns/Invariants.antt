use Rattle.std.proofs.Common.{drop}
use Rattle.stream_writer.specs.Stream.{trees}
use Rattle.stream_writer.specs.ViewedRows.{AreFlat}
use Rattle.stream_writer.proofs.viewed_rows.has_flat_columns.Given as goal

abbrev pub invariant-loop-field : goal.invariant-loop-field
invariant-loop-field l = AreFlat (trees (drop l.field-index l.field-items)) → AreFlat (trees l.field-items)
