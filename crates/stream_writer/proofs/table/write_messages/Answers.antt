use Rattle.std.proofs.Common.{◌++◌, length, sym, subst}
use Rattle.stream_writer.specs.Stream.{batches, coded_canon, end_mark, trees}
use Rattle.stream_writer.specs.WrittenSoFar.{WrittenSoFar}
use Rattle.stream_writer.proofs.ProgressLemmas.{held-first}
use Rattle.stream_writer.proofs.Whole.{from-err}
use Rattle.stream_writer.proofs.table.write_messages.Goals as goal

pub returns-in_err-written : goal.returns-in_err-written
returns-in_err-written g c =
    let fs = c.args.schema.now.fields.items in
    let rows = g.R.RowSource.rows c.args.rows in
    let start = g.S.Sink.sunk c.args.sink.now in
    from-err start (g.S.Sink.sunk c.put_schema.new.sink) c.from_residual.result c.in_err-written.field-0.0
    (coded_canon fs c.args.coded.now rows) c.from_residual.ensures.1
    (c.in_err-written.ensures.goes rows c.requires.table.sound)

pub put_rest-requires-clause-held : goal.put_rest-requires-clause-held
put_rest-requires-clause-held g c =
    let fs = c.args.schema.now.fields.items in
    let rows = g.R.RowSource.rows c.args.rows in (
      fs,
      rows,
      held-first fs c.args.layouts.now rows c.in_ok-written.written c.requires.layouts c.requires.table
          c.in_ok-written.ensures.size,
    )

pub returns : goal.returns
returns g c =
    let fs = c.args.schema.now.fields.items in
    let coded = c.args.coded.now in
    let rows = g.R.RowSource.rows c.args.rows in
    let start = g.S.Sink.sunk c.args.sink.now in
    let so_far = c.in_ok-written.ensures.goes rows c.requires.table.sound in
    c.put_rest.ensures start fs rows (coded_canon fs coded rows)
    (held-first fs c.args.layouts.now rows c.in_ok-written.written c.requires.layouts c.requires.table
    c.in_ok-written.ensures.size)
    (subst (λ (ks : _). WrittenSoFar start (g.S.Sink.sunk c.put_schema.new.sink) c.in_ok-written.written
    (coded_canon fs coded rows) (batches ks (trees fs) (length rows) rows ++ end_mark)) (sym c.requires.coded) so_far)
