use Rattle.std.proofs.Common.{sym}
use Rattle.stream_writer.specs.ViewedRows.{viewed_columns}
use Rattle.stream_writer.proofs.BatchRowLemmas.{rows_from-length}
use Rattle.stream_writer.proofs.viewed_rows.ViewedRowsRowSource.len.Goals as goal

pub returns : goal.returns
returns c =
    let r = c.args.self.now in
    sym (rows_from-length (viewed_columns r.columns.now) r.from r.left)
