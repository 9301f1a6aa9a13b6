use Rattle.std.proofs.Common.{[], Ok, map}
use Rattle.std.proofs.lemmas.Result.{err_from_is_err_and}
use Rattle.schema_meta.specs.Logical.{logical_field}
use Rattle.schema_meta.specs.Story.{story_of}
use Rattle.liveviews.proofs.StreamLemmas.{
  complete-accepted,
  complete-knows,
  complete-writes,
  refused-within,
  streamed-beginning,
  write-stops,
}
use Rattle.liveviews.proofs.recasting.one_pass.finish.Goals as goal

pub returns-in-Err-clause-streams : goal.returns-in-Err-clause-streams
returns-in-Err-clause-streams g c = λ start input streamed.
    let now = g.S.Sink.sunk c.args.sink.now in
    rw c.fault.ensures
    (refused-within start now _ c.in-Err.cause (story_of input)
    (streamed-beginning start now (story_of input) c.args.feed.now c.args.streaming.now [] streamed)
    (c.in-Err.ensures.refused (story_of input) streamed.rows streamed.reached))

pub returns-in_err-writer-clause-streams : goal.returns-in_err-writer-clause-streams
returns-in_err-writer-clause-streams g c = λ start input streamed.
    let failed = err_from_is_err_and c.from_residual.result c.from_residual.ensures.1 in
    let complete = c.in_default.ensures.complete (story_of input) streamed.rows streamed.reached in
    rw (failed.1, failed.2)
    (c.in_err-writer.ensures.stops start (story_of input) streamed.rows streamed.written
    (complete-knows (story_of input) _ streamed.rows complete))

pub end-requires-2 : goal.end-requires-2
end-requires-2 g c =
    let r = c.requires.streamed in
    let complete = c.in_default.ensures.complete r.1 r.2.rows r.2.reached in
    let x =
    c.in_ok-writer.ensures.written r.0 r.1 r.2.rows r.2.written (complete-knows r.1 _ r.2.rows complete) in
    record { writing = (r.0, map logical_field x.0, r.2.rows, x.2) }

pub returns-in_err-written-clause-streams : goal.returns-in_err-written-clause-streams
returns-in_err-written-clause-streams g c = λ start input streamed.
    let s = story_of input in
    let failed = err_from_is_err_and c.from_residual-in_err-written.result c.from_residual-in_err-written.ensures.1 in
    let complete = c.in_default.ensures.complete s streamed.rows streamed.reached in
    let x =
    c.in_ok-writer.ensures.written start s streamed.rows streamed.written (complete-knows s _ streamed.rows complete) in
    rw (failed.1, failed.2)
    (write-stops start (g.S.Sink.sunk c.end-2.new.sink) c.in_err-written.field-0.0 s (record {
      entries = x.0;
      rows = streamed.rows;
      begins = x.1;
      writes = c.in_err-written.ensures start (map logical_field x.0) streamed.rows x.2;
    }))

pub returns-clause-streams : goal.returns-clause-streams
returns-clause-streams g c = λ start input streamed.
    let s = story_of input in
    let complete = c.in_default.ensures.complete s streamed.rows streamed.reached in
    let x =
    c.in_ok-writer.ensures.written start s streamed.rows streamed.written (complete-knows s _ streamed.rows complete) in
    complete-writes c.recast_law.ensures.back start (g.S.Sink.sunk c.end-2.new.sink) (Ok c.in_ok-written.written) input _
    x.0 streamed.rows complete x.1 (c.in_ok-written.ensures start (map logical_field x.0) streamed.rows x.2)

pub returns-clause-accepted : goal.returns-clause-accepted
returns-clause-accepted g c = λ start input streamed.
    complete-accepted (story_of input) _ streamed.rows
    (c.in_default.ensures.complete (story_of input) streamed.rows streamed.reached)
