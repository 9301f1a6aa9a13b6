use Rattle.std.proofs.Common.{ℕ, List, ◌++◌}
use Rattle.liveviews.specs.Inspect.{account_of}
use Rattle.liveviews.specs.Showing.{Remains}
use Rattle.liveviews.specs.Source.{OfRead}
use Rattle.liveviews.specs.Steps.{IsOpen}
use Rattle.liveviews.proofs.show.Showing.take_source.Given as goal

abbrev pub invariant-loop : goal.invariant-loop
invariant-loop g l =
    IsOpen l.self.feed
    × OfRead (g.R.Read.remaining l.initial.source) (g.R.Read.remaining l.source)
    (λ bytes. (later : List ℕ) → Remains (account_of (bytes ++ later)) l.self.feed later)
