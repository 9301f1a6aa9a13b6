use Rattle.std.proofs.Common.{◌-◌, arith}
use Rattle.liveviews.proofs.SourceLemmas.{consumes-part}
use Rattle.liveviews.proofs.reading.pieces.read_between.Goals as goal

pub returns-clause-took : goal.returns-clause-took
returns-clause-took g c = λ held before.
    consumes-part held _ _ c.args.room.now c.read_piece.new.room c.args.from (c.args.end - c.args.from) c.in_ok-count.count
    (omega (arith, c.requires.order, c.requires.long)) c.in_ok-count.ensures.within c.in_ok-count.ensures.took before
