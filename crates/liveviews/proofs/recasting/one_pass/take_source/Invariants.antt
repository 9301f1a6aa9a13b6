use Rattle.std.proofs.Common.{ℕ, List, ◌++◌}
use Rattle.schema_meta.specs.Story.{story_of}
use Rattle.liveviews.specs.Source.{OfRead}
use Rattle.liveviews.specs.Steps.{IsOpen}
use Rattle.liveviews.specs.Streams.{HasStreamed}
use Rattle.liveviews.proofs.recasting.one_pass.take_source.Given as goal

abbrev pub invariant-loop : goal.invariant-loop
invariant-loop g l =
    IsOpen l.feed
    × OfRead (g.R.Read.remaining l.initial.source) (g.R.Read.remaining l.source)
    (λ bytes. (later : List ℕ) → HasStreamed (g.S.Sink.sunk l.initial.sink) (g.S.Sink.sunk l.sink)
    (story_of (bytes ++ later)) l.feed l.streaming later)
