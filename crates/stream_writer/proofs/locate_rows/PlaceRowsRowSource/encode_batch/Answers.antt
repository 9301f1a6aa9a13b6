use Rattle.std.proofs.Common.{arith}
use Rattle.stream_writer.proofs.PlaceRowLemmas.{placed-many}
use Rattle.stream_writer.proofs.locate_rows.PlaceRowsRowSource.encode_batch.Goals as goal

pub encode_locations-requires-clause-within : goal.encode_locations-requires-clause-within
encode_locations-requires-clause-within c =
    let left = c.args.self.now in
    let many = placed-many left.columns.now left.rows c.requires.fits.have in
    omega (arith, many, c.requires.within)
