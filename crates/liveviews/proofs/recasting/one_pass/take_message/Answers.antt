use Rattle.std.proofs.Common.{◌++◌, drop}
use Rattle.std.proofs.lemmas.Result.{err_from_is_err_and}
use Rattle.liveviews.proofs.StreamLemmas.{refused-within, streamed-beginning}
use Rattle.liveviews.proofs.recasting.one_pass.take_message.Goals as goal

pub returns-in-Err-clause-stops : goal.returns-in-Err-clause-stops
returns-in-Err-clause-stops g c = λ start s later streamed.
    let now = g.S.Sink.sunk c.args.sink.now in
    rw c.fault.ensures
    (refused-within start now _ c.in-Err.cause s
    (streamed-beginning start now s c.args.feed.now c.args.streaming.now (c.args.piece.now ++ later) streamed)
    (c.in-Err.ensures.refused s streamed.rows later streamed.reached))

pub returns-in_default-clause-streamed : goal.returns-in_default-clause-streamed
returns-in_default-clause-streamed g c = λ start s later streamed. record {
  rows = streamed.rows;
  reached = c.in-Ok.ensures.passed c.in_default.is s streamed.rows later streamed.reached;
  counted = streamed.counted;
  written = streamed.written;
}

pub take-requires-clause-brought : goal.take-requires-clause-brought
take-requires-clause-brought g c =
    let r = c.requires.streamed in
    let brought = rw c.in-Some.is at c.in-Ok.ensures.brought in (
      r.0,
      r.1,
      r.3.rows,
      drop c.in-Ok.next.used c.args.piece.now ++ r.2,
      r.3.written,
      r.3.counted,
      brought r.1 r.3.rows r.2 r.3.reached,
    )

pub returns-in_err-take-clause-stops : goal.returns-in_err-take-clause-stops
returns-in_err-take-clause-stops g c =
    let failed = err_from_is_err_and c.from_residual.result c.from_residual.ensures.1 in
    let brought = rw c.in-Some.is at c.in-Ok.ensures.brought in
    rw (failed.1, failed.2) (λ start s later streamed.
    c.in_err-take.ensures.stops start s streamed.rows (drop c.in-Ok.next.used c.args.piece.now ++ later) streamed.written
    streamed.counted (brought s streamed.rows later streamed.reached))

pub returns-clause-streamed : goal.returns-clause-streamed
returns-clause-streamed g c = λ start s later streamed.
    let brought = rw c.in-Some.is at c.in-Ok.ensures.brought in
    c.in_ok-take.ensures.streamed start s streamed.rows (drop c.in-Ok.next.used c.args.piece.now ++ later)
    streamed.written streamed.counted (brought s streamed.rows later streamed.reached)
