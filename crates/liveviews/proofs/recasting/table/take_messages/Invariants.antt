use Rattle.std.proofs.Common.{ℕ, List, ◌++◌, length}
use Rattle.schema_meta.specs.Story.{Story}
use Rattle.liveviews.specs.Steps.{HasConsumed, IsOpen}
use Rattle.liveviews.specs.Buffered.{IsCounted}
use Rattle.liveviews.proofs.recasting.table.take_messages.Given as goal

abbrev pub invariant-loop-rest : goal.invariant-loop-rest
invariant-loop-rest l =
    IsOpen l.feed × IsCounted l.rows
    × ((s : Story) (later : List ℕ) → HasConsumed s l.initial.feed l.initial.rows (l.fn.piece ++ later)
    → HasConsumed s l.feed l.rows (l.rest ++ later))

abbrev pub decreases-loop-rest : goal.decreases-loop-rest
decreases-loop-rest l = length l.rest
