use Rattle.std.proofs.Common.{◌≡◌, length}
use Rattle.std.specs.Io.KnownBytes.{Keeps}
use Rattle.liveviews.proofs.reading.pieces.read_piece.Given as goal

abbrev pub invariant-loop : goal.invariant-loop
invariant-loop g l =
    (length l.room ≡ length l.initial.room)
    × Keeps (g.R.Read.remaining l.initial.source) (g.R.Read.remaining l.source)
