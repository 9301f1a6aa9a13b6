use Rattle.std.proofs.Common.{ℕ, List, ◌++◌, length}
use Rattle.liveviews.specs.Inspect.{Account}
use Rattle.liveviews.specs.Inspecting.{IsLeft, IsOpen}
use Rattle.liveviews.proofs.inspecting.events.Inspection.take_all.Given as goal

abbrev pub invariant-loop-rest : goal.invariant-loop-rest
invariant-loop-rest l =
    IsOpen l.self
    × ((a : Account) (later : List ℕ) → IsLeft a l.initial.self (l.fn.piece ++ later)
    → IsLeft a l.self (l.rest ++ later))

abbrev pub decreases-loop-rest : goal.decreases-loop-rest
decreases-loop-rest l = length l.rest
