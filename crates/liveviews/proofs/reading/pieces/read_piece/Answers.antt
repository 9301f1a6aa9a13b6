use Rattle.liveviews.proofs.SourceLemmas.{kept-consumes}
use Rattle.liveviews.proofs.reading.pieces.read_piece.Goals as goal

pub returns-in-Ok-clause-took : goal.returns-in-Ok-clause-took
returns-in-Ok-clause-took g c = kept-consumes _ _ _ _ c.loop.invariant.1 c.in-Ok.ensures.bytes.0
