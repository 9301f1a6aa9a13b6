use Rattle.std.proofs.Common.{◌≡◌, ◌+◌, ◌-◌}
use Rattle.values.specs.Limits.{max_batch_rows, max_batch_weight}
use Rattle.values.specs.Rose.{kids_of}
use Rattle.schema_meta.specs.Rows.{rows_from}
use Rattle.stream_writer.specs.Stream.{beginning}
use Rattle.stream_writer.specs.ViewedRows.{viewed_columns, views_left}
use Rattle.stream_writer.proofs.viewed_rows.count_fitting.Given as goal

abbrev pub invariant-loop-count : goal.invariant-loop-count
invariant-loop-count l =
    l.count + beginning (kids_of l.layouts) (max_batch_rows - l.count) l.room
    (rows_from (viewed_columns l.rows.columns.now) (l.rows.from + l.count) (l.rows.left - l.count))
    ≡ beginning (kids_of l.layouts) max_batch_rows max_batch_weight (views_left l.rows)
