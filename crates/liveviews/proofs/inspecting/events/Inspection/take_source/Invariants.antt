use Rattle.std.proofs.Common.{ℕ, List, ◌++◌}
use Rattle.liveviews.specs.Inspect.{account_of}
use Rattle.liveviews.specs.Inspecting.{IsLeft}
use Rattle.liveviews.specs.Source.{OfRead}
use Rattle.liveviews.proofs.inspecting.events.Inspection.take_source.Given as goal

abbrev pub invariant-loop : goal.invariant-loop
invariant-loop g l =
    OfRead (g.R.Read.remaining l.initial.source) (g.R.Read.remaining l.source)
    (λ bytes. (later : List ℕ) → IsLeft (account_of (bytes ++ later)) l.self later)
