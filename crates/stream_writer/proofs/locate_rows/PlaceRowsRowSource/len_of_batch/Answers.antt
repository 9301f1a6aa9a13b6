use Rattle.std.proofs.Common.{arith, length, sym}
use Rattle.values.specs.Rose.{kids_of}
use Rattle.stream_writer.specs.PlaceRows.{placed_left}
use Rattle.stream_writer.proofs.BatchRowLemmas.{light-len}
use Rattle.stream_writer.proofs.PlaceRowLemmas.{placed-many}
use Rattle.stream_writer.proofs.locate_rows.PlaceRowsRowSource.len_of_batch.Goals as goal

pub returns-clause-value : goal.returns-clause-value
returns-clause-value c =
    let r = c.args.self.now in
    light-len (kids_of c.args._layouts.now) (placed_left r) (length r.rows.main.locations.now) c.min.result
    c.requires.fits.light (sym (placed-many r.columns.now r.rows c.requires.fits.have)) c.min.ensures

pub returns-clause-bound : goal.returns-clause-bound
returns-clause-bound c =
    let left = c.args.self.now in
    let many = placed-many left.columns.now left.rows c.requires.fits.have in
    omega (arith, many, c.min.ensures)
