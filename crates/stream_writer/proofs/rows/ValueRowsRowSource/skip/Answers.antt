use Rattle.std.proofs.Common.{arith}
use Rattle.stream_writer.proofs.Cut.{cells-left, cells-length}
use Rattle.stream_writer.proofs.rows.ValueRowsRowSource.skip.Goals as goal

pub returns-clause-rows : goal.returns-clause-rows
returns-clause-rows c =
    let rows = c.args.self.now.rows.now in
    let same = cells-length rows in
    cells-left rows c.args.count (omega (arith, c.requires.within, same))
