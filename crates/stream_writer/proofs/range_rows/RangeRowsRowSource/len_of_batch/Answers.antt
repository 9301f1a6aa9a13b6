use Rattle.values.specs.Rose.{kids_of}
use Rattle.stream_writer.specs.RangeRows.{picked_left}
use Rattle.stream_writer.proofs.BatchRowLemmas.{light-len}
use Rattle.stream_writer.proofs.range_rows.RangeRowsRowSource.len_of_batch.Goals as goal

pub returns-clause-value : goal.returns-clause-value
returns-clause-value c =
    let r = c.args.self.now in
    light-len (kids_of c.args._layouts.now) (picked_left r) r.left c.min.result c.requires.fits.light
    c.requires.fits.left c.min.ensures
