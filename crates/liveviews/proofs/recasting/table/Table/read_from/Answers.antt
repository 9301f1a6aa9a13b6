use Rattle.std.proofs.Common.{ap}
use Rattle.std.proofs.lemmas.Result.{IfOk-weaker}
use Rattle.body_writer.specs.RowRanges.{rows_of}
use Rattle.liveviews.proofs.Inputs.{begins, source-read, source-story}
use Rattle.liveviews.proofs.recasting.table.Table.read_from.Goals as goal

pub take_source-requires-clause-begins : goal.take_source-requires-clause-begins
take_source-requires-clause-begins g c =
    begins c.first_message_law.ensures.none c.story_law.ensures.all c.open-feed.result c.new-rows.result
    c.open-feed.ensures.shown (ap rows_of c.new-rows.ensures.none) c.new-rows.ensures.none

pub returns-in-Ok-clause-read : goal.returns-in-Ok-clause-read
returns-in-Ok-clause-read g c =
    source-read _ _ _ c.in_ok-taken.taken _ c.complete.result c.in-Ok.is c.in_ok-taken.ensures.taken
    c.complete.ensures.means c.complete.ensures.accepted c.complete.ensures.refused

pub returns-in-Ok-clause-within : goal.returns-in-Ok-clause-within
returns-in-Ok-clause-within g c =
    let told = source-story _ _ _ c.in_ok-taken.taken _ c.in-Ok.is c.in_ok-taken.ensures.taken in
    IfOk-weaker c.complete.result _ _ (λ t so. so told.0 told.1) c.complete.ensures.within

pub returns-in-Ok-clause-kept : goal.returns-in-Ok-clause-kept
returns-in-Ok-clause-kept g c =
    let told = source-story _ _ _ c.in_ok-taken.taken _ c.in-Ok.is c.in_ok-taken.ensures.taken in
    IfOk-weaker c.complete.result _ _ (λ t so. so told.0 told.1) c.complete.ensures.kept
