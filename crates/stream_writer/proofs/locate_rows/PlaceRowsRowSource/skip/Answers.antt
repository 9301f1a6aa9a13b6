use Rattle.std.proofs.Common.{arith}
use Rattle.stream_writer.proofs.PlaceRowLemmas.{fits-left, left-rows, placed-many}
use Rattle.stream_writer.proofs.locate_rows.PlaceRowsRowSource.skip.Goals as goal

pub rest-self-requires-clause-main : goal.rest-self-requires-clause-main
rest-self-requires-clause-main c =
    let old = c.args.self.now in
    let many = placed-many old.columns.now old.rows c.requires.fits.1.have in
    omega (arith, many, c.requires.within)

pub rest-self-requires-clause-side : goal.rest-self-requires-clause-side
rest-self-requires-clause-side c =
    let old = c.args.self.now in
    let have = c.requires.fits.1.have in
    let many = placed-many old.columns.now old.rows have in
    omega (arith, many, have.many, c.requires.within)

pub returns-clause-rows : goal.returns-clause-rows
returns-clause-rows c =
    let old = c.args.self.now in
    left-rows old.columns.now c.args.count old.rows c.rest-self.result c.rest-self.ensures

pub returns-clause-fits : goal.returns-clause-fits
returns-clause-fits c = λ ls fits.
    fits-left ls c.args.self.now c.args.count c.rest-self.result c.rest-self.ensures fits
