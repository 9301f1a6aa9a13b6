use Rattle.std.proofs.Common.{◌≡◌, None}
use Rattle.std.proofs.lemmas.Result.{IfOk-weaker}
use Rattle.liveviews.proofs.StreamLemmas.{none-written}
use Rattle.liveviews.proofs.recasting.one_pass.Streaming.writer.Goals as goal

pub returns-in-None-clause-written : goal.returns-in-None-clause-written
returns-in-None-clause-written g c =
    let was = c.in-None.ensures.value in
    let is = c.in-None.is in
    let none : c.args.self.now.writer ≡ None = cc in
    IfOk-weaker c.begin_writer.result _ _
    (λ w begun start s rows before knows. none-written start (g.S.Sink.sunk c.args.sink.now)
    (g.S.Sink.sunk c.begin_writer.new.sink) s c.args.self.now.writer rows w none
    before (begun s knows)) c.begin_writer.ensures.written
