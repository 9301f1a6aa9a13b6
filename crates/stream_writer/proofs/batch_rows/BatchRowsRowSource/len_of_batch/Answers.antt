use Rattle.std.proofs.Common.{length}
use Rattle.values.specs.Rose.{kids_of}
use Rattle.stream_writer.specs.BatchRows.{rows_left}
use Rattle.stream_writer.proofs.BatchRowLemmas.{light-len, weighed-each, weighed-light}
use Rattle.stream_writer.proofs.FittingLemmas.{weighed-len}
use Rattle.stream_writer.proofs.Whole.{none-left, some-left}
use Rattle.stream_writer.proofs.batch_rows.BatchRowsRowSource.len_of_batch.Goals as goal

pub returns-then-is_empty-clause-value : goal.returns-then-is_empty-clause-value
returns-then-is_empty-clause-value c =
    let ls = kids_of c.args._layouts.now in
    let r = c.args.self.now in
    let none = none-left c.is_empty.result (length r.weights.now) c.is_empty.ensures c.if-is_empty.true in
    light-len ls (rows_left r) r.left c.min.result
    (weighed-light ls r.weights.now (rows_left r) c.requires.fits.weighed none) c.requires.fits.left c.min.ensures

pub returns-clause-value : goal.returns-clause-value
returns-clause-value c =
    let ls = kids_of c.args._layouts.now in
    let r = c.args.self.now in
    let some = some-left c.is_empty.result (length r.weights.now) c.is_empty.ensures c.if-is_empty.false in
    weighed-len ls (rows_left r) r.weights.now c.count_fitting.result
    (weighed-each ls r.weights.now (rows_left r) c.requires.fits.weighed some) c.count_fitting.ensures.value
