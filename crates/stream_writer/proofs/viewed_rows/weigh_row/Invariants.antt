use Rattle.std.proofs.Common.{◌≡◌, ◌+◌, drop}
use Rattle.values.specs.Rose.{kids_of}
use Rattle.schema_meta.specs.Rows.{row_at}
use Rattle.body_writer.specs.Batch.{row_weight}
use Rattle.stream_writer.specs.ViewedRows.{viewed_columns}
use Rattle.stream_writer.proofs.viewed_rows.weigh_row.Given as goal

abbrev pub invariant-loop-j : goal.invariant-loop-j
invariant-loop-j l =
    l.sum + row_weight (kids_of (drop l.j l.layouts)) (drop l.j (row_at (viewed_columns l.columns) l.index))
    ≡ row_weight (kids_of l.layouts) (row_at (viewed_columns l.columns) l.index)
