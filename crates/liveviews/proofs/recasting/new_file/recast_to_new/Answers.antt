use Rattle.liveviews.proofs.ReplaceLemmas.{thrown-ends, unplaced-ends}
use Rattle.liveviews.proofs.recasting.new_file.recast_to_new.Goals as goal

pub returns-in-Err-place-clause-ends : goal.returns-in-Err-place-clause-ends
returns-in-Err-place-clause-ends g c = λ held holds.
    unplaced-ends held _ _ (g.F.Sink.sunk c.args.files.now) (g.F.Sink.sunk c.place.new.self) _ _ c.in-Err-place.field-0
    (g.F.Files.not_created c.place.new.self) holds c.in-Ok.ensures.streams c.in-Err-place.ensures.failed

pub returns-in-Err-clause-ends : goal.returns-in-Err-clause-ends
returns-in-Err-clause-ends g c = λ held holds.
    rw c.unstreamed.ensures
    (thrown-ends held _ _ (g.F.Sink.sunk c.args.files.now) (g.F.Sink.sunk c.discard.new.self) _ c.in-Err.fault
    (g.F.Files.not_created c.discard.new.self) _ c.requires.begins holds c.in-Err.ensures.streams c.discard.ensures.sunk
    c.discard.ensures.sunk)
