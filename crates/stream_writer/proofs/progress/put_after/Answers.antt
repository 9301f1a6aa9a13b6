use Rattle.std.proofs.Common.{Err, subst, sym}
use Rattle.stream_writer.specs.Sinks.{Writes}
use Rattle.stream_writer.specs.declared.faults.WriteFault.{WriteFault}
use Rattle.stream_writer.proofs.WrittenLemmas.{WrittenSoFar-on, WrittenSoFar-stop}
use Rattle.stream_writer.proofs.progress.put_after.Goals as goal

pub returns-in-Ok-clause-goes : goal.returns-in-Ok-clause-goes
returns-in-Ok-clause-goes g c = λ start whole rest so_far.
    WrittenSoFar-on start (g.S.Sink.sunk c.args.sink.now) (g.S.Sink.sunk c.put_all.new.sink) c.args.written c.in-Ok.more
    whole c.args.bytes.now rest so_far c.in-Ok.ensures.writes

pub returns-in-Err-clause-goes : goal.returns-in-Err-clause-goes
returns-in-Err-clause-goes g c = λ start whole rest so_far.
    let P : WriteFault → Type 0 = λ fault. Writes start (g.S.Sink.sunk c.put_all.new.sink) (Err fault) whole in
    subst P (sym c.after.ensures)
    (WrittenSoFar-stop start (g.S.Sink.sunk c.args.sink.now) (g.S.Sink.sunk c.put_all.new.sink) c.args.written
    c.in-Err.fault whole c.args.bytes.now rest so_far c.in-Err.ensures.writes)
