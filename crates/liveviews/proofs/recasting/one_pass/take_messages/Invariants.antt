use Rattle.std.proofs.Common.{ℕ, List, ◌++◌, length}
use Rattle.schema_meta.specs.Story.{Story}
use Rattle.stream_writer.specs.Sinks.{Sunk}
use Rattle.liveviews.specs.Steps.{IsOpen}
use Rattle.liveviews.specs.Streams.{HasStreamed}
use Rattle.liveviews.proofs.recasting.one_pass.take_messages.Given as goal

abbrev pub invariant-loop-rest : goal.invariant-loop-rest
invariant-loop-rest g l =
    IsOpen l.feed
    × ((start : Sunk) (s : Story) (later : List ℕ)
    → HasStreamed start (g.S.Sink.sunk l.initial.sink) s l.initial.feed l.initial.streaming (l.fn.piece ++ later)
    → HasStreamed start (g.S.Sink.sunk l.sink) s l.feed l.streaming (l.rest ++ later))

abbrev pub decreases-loop-rest : goal.decreases-loop-rest
decreases-loop-rest g l = length l.rest
