use Rattle.std.proofs.Common.{arith}
use Rattle.stream_writer.specs.ViewedRows.{viewed_columns}
use Rattle.stream_writer.proofs.BatchRowLemmas.{rows_from-length}
use Rattle.stream_writer.proofs.ViewLemmas.{long-weaker, views-dropped}
use Rattle.stream_writer.proofs.viewed_rows.ViewedRowsRowSource.skip.Goals as goal

pub overflow_add-self : goal.overflow_add-self
overflow_add-self c =
    let r = c.args.self.now in
    let long = rows_from-length (viewed_columns r.columns.now) r.from r.left in
    let small = c.requires.fits.1.small in
    omega (arith, c.requires.within, long, small)

pub overflow_sub-self : goal.overflow_sub-self
overflow_sub-self c =
    let r = c.args.self.now in
    let long = rows_from-length (viewed_columns r.columns.now) r.from r.left in
    omega (arith, c.requires.within, long)

pub returns-clause-rows : goal.returns-clause-rows
returns-clause-rows c =
    let r = c.args.self.now in
    let cols = viewed_columns r.columns.now in
    let long = rows_from-length cols r.from r.left in
    views-dropped cols r.from r.left c.args.count (omega (arith, c.requires.within, long))

pub returns-clause-fits : goal.returns-clause-fits
returns-clause-fits c = λ ls fits.
    let r = c.args.self.now in
    let long = rows_from-length (viewed_columns r.columns.now) r.from r.left in
    let small = fits.small in
    record {
      many = fits.many;
      long = long-weaker r.columns.now _ _ (omega (arith, c.requires.within, long)) fits.long;
      flat = fits.flat;
      small = omega (arith, c.requires.within, long, small);
    }
