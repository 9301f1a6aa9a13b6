use Rattle.std.proofs.Common.{rules}
use Rattle.std.proofs.lemmas.Result.{err_from_is_err_and}
use Rattle.liveviews.proofs.StreamLemmas.{streamed-all, streamed-rest}
use Rattle.liveviews.proofs.recasting.one_pass.take_messages.Goals as goal

pub take_message-requires-clause-streamed : goal.take_message-requires-clause-streamed
take_message-requires-clause-streamed g c =
    let r = c.requires.streamed in (r.0, r.1, r.2, c.loop-rest.invariant.1 r.0 r.1 r.2 r.3)

pub returns-in_err-used-clause-stops : goal.returns-in_err-used-clause-stops
returns-in_err-used-clause-stops g c =
    let failed = err_from_is_err_and c.from_residual.result c.from_residual.ensures.1 in
    rw (failed.1, failed.2)
    (λ start s later streamed. c.in_err-used.ensures.stops start s later (c.loop-rest.invariant.1 start s later streamed))

pub loop-rest-preserved : goal.loop-rest-preserved
loop-rest-preserved g c = (
  c.in_ok-used.ensures.open,
  λ start s later streamed.
      streamed-rest start (g.S.Sink.sunk c.take_message.new.sink) s c.take_message.new.feed c.take_message.new.streaming
      c.loop-rest.rest.now later c.in_ok-used.used
      (c.in_ok-used.ensures.streamed start s later (c.loop-rest.invariant.1 start s later streamed)),
)

pub returns-clause-streamed : goal.returns-clause-streamed
returns-clause-streamed g c = λ start s later streamed.
    streamed-all start (g.S.Sink.sunk c.loop-rest.sink) s c.loop-rest.feed c.loop-rest.streaming c.loop-rest.rest.now
    later (search rules) (c.loop-rest.invariant.1 start s later streamed)
