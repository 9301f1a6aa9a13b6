use Rattle.std.proofs.Common.{◌∙◌, arith}
use Rattle.stream_writer.proofs.Puts.{put-on}
use Rattle.stream_writer.proofs.sink.put_all.Goals.{in-Err, in-Ok}
use Rattle.stream_writer.proofs.sink.put_all.Goals as goal

pub loop-written-preserved : goal.loop-written-preserved
loop-written-preserved g c = elim c.match-put.branch [
  | in-Ok w ↦
      (let inv = c.loop-written.invariant in
      let some = c.if-taken-eq0.false in
      let on =
      put-on (g.S.Sink.sunk c.args.sink.now) (g.S.Sink.sunk c.loop-written.sink) (g.S.Sink.sunk c.put.new.self)
      c.args.bytes.now c.loop-written.written w.in-Ok.taken
      inv.bound inv.bytes w.in-Ok.ensures (omega (arith, some, w.taken-is)) in
      rw w.taken-is (record { bound = on.0; bytes = on.1; failures = on.2 ∙ inv.failures }))
  | in-Err w ↦ absurd (c.if-taken-eq0.false w.taken-is)
]
