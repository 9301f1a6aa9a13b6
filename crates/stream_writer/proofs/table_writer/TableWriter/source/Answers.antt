use Rattle.std.proofs.Common.{ap, drop, refl}
use Rattle.body_writer.specs.RowRanges.{rows_of}
use Rattle.stream_writer.proofs.TableWriterLemmas.{source-fits}
use Rattle.stream_writer.proofs.table_writer.TableWriter.source.Goals as goal

pub returns-clause-rows : goal.returns-clause-rows
returns-clause-rows c = ap (λ bs. drop c.args.self.now.from (rows_of bs)) c.deref.ensures.value

pub returns-clause-fits : goal.returns-clause-fits
returns-clause-fits c =
    let r = c.requires in
    source-fits r.0 r.1 r.2 r.3 c.args.self.now _ r.4 c.deref.ensures.value refl refl c.deref-2.ensures.value
