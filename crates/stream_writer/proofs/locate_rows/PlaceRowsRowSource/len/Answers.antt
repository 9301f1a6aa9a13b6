use Rattle.std.proofs.Common.{sym}
use Rattle.stream_writer.proofs.PlaceRowLemmas.{placed-many}
use Rattle.stream_writer.proofs.locate_rows.PlaceRowsRowSource.len.Goals as goal

pub returns : goal.returns
returns c =
    let left = c.args.self.now in
    sym (placed-many left.columns.now left.rows c.requires.1.have)
