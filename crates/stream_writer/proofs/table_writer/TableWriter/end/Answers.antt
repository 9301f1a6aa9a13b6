use Rattle.std.proofs.Common.{List, [], sym, subst}
use Rattle.values.specs.Datum.{Datum}
use Rattle.values.specs.Rose.{Rose}
use Rattle.values.specs.declared.layout.Layout.{Layout}
use Rattle.stream_writer.specs.BatchRows.{FitsBatches, rows_left}
use Rattle.stream_writer.specs.Progress.{HasPut}
use Rattle.stream_writer.specs.Stream.{canon}
use Rattle.stream_writer.proofs.ProgressLemmas.{ends-there}
use Rattle.stream_writer.proofs.TableWriterLemmas.{source-held}
use Rattle.stream_writer.proofs.table_writer.TableWriter.end.Goals as goal

pub source-requires : goal.source-requires
source-requires g c =
    let r = c.requires.writing in (r.0, g.S.Sink.sunk c.args.sink.now, r.1, r.2, r.3.holds)

pub put_rest-requires-clause-held : goal.put_rest-requires-clause-held
put_rest-requires-clause-held g c =
    let r = c.requires.writing in (
      r.1,
      r.2,
      source-held r.1 c.args.self.layouts.items c.deref.result.now r.2 _ (rows_left c.source.result)
          c.args.self.written c.deref.ensures.value c.source.ensures.rows r.3.holds.held,
    )

pub put_rest-requires-clause-fits : goal.put_rest-requires-clause-fits
put_rest-requires-clause-fits g c =
    subst (λ (ls : List (Rose Layout)). FitsBatches ls c.source.result) (sym c.deref.ensures.value)
    c.source.ensures.fits

pub returns : goal.returns
returns g c = λ start fs rows writing.
    let now = g.S.Sink.sunk c.args.sink.now in
    let w = c.args.self in
    let left = rows_left c.source.result in
    let P : List (List Datum) → Type 0 = λ rs. HasPut start now w.written fs [] rows rs in
    c.put_rest.ensures start fs rows (canon fs rows)
    (source-held fs w.layouts.items c.deref.result.now rows _ left w.written c.deref.ensures.value
    c.source.ensures.rows writing.holds.held)
    (ends-there start now w.written fs [] rows left (subst P (sym c.source.ensures.rows) writing.holds.put))
