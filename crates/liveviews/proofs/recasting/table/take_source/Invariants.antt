use Rattle.std.proofs.Common.{ℕ, List, ◌++◌}
use Rattle.schema_meta.specs.Story.{story_of}
use Rattle.liveviews.specs.Buffered.{IsCounted}
use Rattle.liveviews.specs.Source.{OfRead}
use Rattle.liveviews.specs.Steps.{HasConsumed, IsOpen}
use Rattle.liveviews.proofs.recasting.table.take_source.Given as goal

abbrev pub invariant-loop : goal.invariant-loop
invariant-loop g l =
    IsOpen l.feed × IsCounted l.rows
    × OfRead (g.R.Read.remaining l.initial.source) (g.R.Read.remaining l.source)
    (λ bytes. (later : List ℕ) → HasConsumed (story_of (bytes ++ later)) l.feed l.rows later)
