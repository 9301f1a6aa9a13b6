use Rattle.std.proofs.Common.{[], refl}
use Rattle.stream_writer.specs.Progress.{StopsIn}
use Rattle.stream_writer.proofs.ProgressLemmas.{stops-err-if}
use Rattle.stream_writer.proofs.TableWriterLemmas.{begins}
use Rattle.stream_writer.proofs.table_writer.TableWriter.begin.Goals as goal

pub returns-in_err-written-clause-stops : goal.returns-in_err-written-clause-stops
returns-in_err-written-clause-stops g c =
    let fs = c.args.schema.now.fields.items in
    let start = g.S.Sink.sunk c.args.sink.now in
    stops-err-if c.from_residual-in_err-written.result c.in_err-written.field-0.0
    (λ fault. StopsIn start (g.S.Sink.sunk c.put_schema.new.sink) fault fs [] [])
    c.from_residual-in_err-written.ensures.1 c.in_err-written.ensures.goes

pub returns-clause-writing : goal.returns-clause-writing
returns-clause-writing g c =
    let fs = c.args.schema.now.fields.items in
    let start = g.S.Sink.sunk c.args.sink.now in
    begins start (g.S.Sink.sunk c.put_schema.new.sink) fs _ c.in_ok-written.ensures.goes c.in_ok-layouts.ensures
    c.requires.columns c.requires.known c.new.ensures.items c.new-2.ensures.items refl refl
    c.in_ok-written.ensures.size
