use Rattle.std.proofs.Common.{◌+◌, ◌≤◌, length, take}
use Rattle.std.specs.Io.KnownBytes.{Consumes}
use Rattle.liveviews.proofs.reading.pieces.read_all.Given as goal

abbrev pub invariant-loop : goal.invariant-loop
invariant-loop g l =
    (l.len ≤ length l.room.items) × (l.counter ≤ l.len)
    × Consumes (g.R.Read.remaining l.initial.source) (g.R.Read.remaining l.source) (take l.len l.room.items)
