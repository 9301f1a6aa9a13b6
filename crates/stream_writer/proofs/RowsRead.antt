-- The rows of a batch are read back from its body.
use Rattle.std.proofs.Common.{refl}
use Rattle.schema_meta.specs.Rows.{rows_of}
use Rattle.schema_meta.proofs.Plain.{plain-arrays}
use Rattle.schema_meta.proofs.SoundFields.{layouts-read}
use Rattle.body_writer.specs.Batch.{row_cells, body_nodes, body_ranges, body_bytes}
use Rattle.body_writer.proofs.RowsReadBack.{batch-read, columns-read, rows-back}
use Rattle.stream_writer.specs.Stream.{trees}
use Rattle.stream_writer.specs.BatchLaw.{head}
use Rattle.stream_writer.specs.RowsLaw.{RowsLaw}

pub rows-law : RowsLaw
unfolding rows_of
rows-law values fs rows b =
    let ls = trees fs in
    let read =
    columns-read (body_bytes ls rows) (body_nodes ls rows) (body_ranges ls rows) 0 0 0 ls (row_cells rows)
    (batch-read ls rows b).0 in
    rw (plain-arrays values fs (head fs rows), layouts-read fs, read, rows-back ls rows b.held) refl
