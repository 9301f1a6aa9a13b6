use Rattle.std.proofs.Common.{ℕ, List, ◌++◌, length}
use Rattle.liveviews.specs.Inspect.{Account}
use Rattle.liveviews.specs.Showing.{Remains}
use Rattle.liveviews.specs.Steps.{IsOpen}
use Rattle.liveviews.proofs.show.Showing.take_all.Given as goal

abbrev pub invariant-loop-rest : goal.invariant-loop-rest
invariant-loop-rest g l =
    IsOpen l.self.feed
    × ((a : Account) (later : List ℕ) → Remains a l.initial.self.feed (l.fn.piece ++ later)
    → Remains a l.self.feed (l.rest ++ later))

abbrev pub decreases-loop-rest : goal.decreases-loop-rest
decreases-loop-rest g l = length l.rest
