use Rattle.std.proofs.Common.{[], ◌++◌, rules, take}
use Rattle.schema_meta.specs.Story.{story_of}
use Rattle.liveviews.specs.declared.files.FileFault.TheVariants as file
use Rattle.liveviews.proofs.SourceLemmas.{read-end, read-more, read-stop}
use Rattle.liveviews.proofs.StreamLemmas.{
  streamed-more,
  streamed-stops,
  streamed-whole,
  unread-first,
  unread-stops,
}
use Rattle.liveviews.proofs.recasting.one_pass.take_source.Goals as goal

pub returns-in_default-clause-stops : goal.returns-in_default-clause-stops
returns-in_default-clause-stops g c =
    rw c.fault.ensures
    (unread-first _ (g.S.Sink.sunk c.args.sink.now) c.args.feed.now c.args.streaming.now c.requires.begins)

pub returns-in-Err-clause-stops : goal.returns-in-Err-clause-stops
returns-in-Err-clause-stops g c =
    rw c.unread.ensures
    (unread-stops _ _ (g.S.Sink.sunk c.args.sink.now) (g.S.Sink.sunk c.loop.sink) c.loop.feed c.loop.streaming
    c.in-Err.fault c.loop.invariant.1)

pub returns-then-len-eq0-clause-streamed : goal.returns-then-len-eq0-clause-streamed
returns-then-len-eq0-clause-streamed g c =
    read-end _ _ _ c.in-Ok-next_piece.len c.next_piece.new.room.items _ _ c.loop.invariant.1 c.in-Ok-next_piece.ensures.took
    c.if-len-eq0.true (c.in-Ok-next_piece.ensures.end c.if-len-eq0.true)
    (λ bytes streamed. streamed-whole (g.S.Sink.sunk c.args.sink.now) (g.S.Sink.sunk c.loop.sink) c.loop.feed
    c.loop.streaming bytes streamed)

pub take_messages-requires-clause-streamed : goal.take_messages-requires-clause-streamed
take_messages-requires-clause-streamed g c =
    let read = c.loop.invariant.1 in
    let piece = take c.in-Ok-next_piece.len c.deref.result.now in
    (g.S.Sink.sunk c.args.sink.now, story_of (read.bytes ++ (piece ++ [])), [], read.so (piece ++ []))

pub returns-in-Err-take_messages-clause-stops : goal.returns-in-Err-take_messages-clause-stops
returns-in-Err-take_messages-clause-stops g c =
    read-stop _ _ _ (take c.in-Ok-next_piece.len c.deref.result.now) _ _ c.loop.invariant.1
    (rw (← c.deref.ensures.value) at c.in-Ok-next_piece.ensures.took)
    (λ bytes later streamed. streamed-stops (g.S.Sink.sunk c.args.sink.now) (g.S.Sink.sunk c.loop.sink)
    (g.S.Sink.sunk c.take_messages.new.sink) c.loop.feed c.loop.streaming _ c.in-Err-take_messages.fault
    c.in-Err-take_messages.ensures.stops bytes later streamed)

pub loop-preserved : goal.loop-preserved
loop-preserved g c = (
  c.in_default-take_messages.ensures.open,
  read-more _ _ _ (take c.in-Ok-next_piece.len c.deref.result.now) _ _ c.loop.invariant.1
      (rw (← c.deref.ensures.value) at c.in-Ok-next_piece.ensures.took)
      (λ bytes streamed later. streamed-more (g.S.Sink.sunk c.args.sink.now) (g.S.Sink.sunk c.loop.sink)
      (g.S.Sink.sunk c.take_messages.new.sink) c.loop.feed c.take_messages.new.feed c.loop.streaming
      c.take_messages.new.streaming _ c.in_default-take_messages.ensures.streamed bytes streamed later),
)

pub returns-clause-stops : goal.returns-clause-stops
returns-clause-stops g c =
    unread-stops _ _ (g.S.Sink.sunk c.args.sink.now) (g.S.Sink.sunk c.loop.sink) c.loop.feed c.loop.streaming
    file.Unusable c.loop.invariant.1
