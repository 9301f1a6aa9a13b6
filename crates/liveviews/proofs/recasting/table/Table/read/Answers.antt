use Rattle.std.proofs.Common.{[], ap}
use Rattle.std.proofs.lemmas.Result.{IfErr-weaker, IfOk-weaker, err_from_is_err_and}
use Rattle.schema_meta.specs.Story.{story_of}
use Rattle.body_writer.specs.RowRanges.{rows_of}
use Rattle.liveviews.proofs.Inputs.{begins, taken-whole}
use Rattle.liveviews.proofs.recasting.table.Table.read.Goals as goal

pub returns-in_err-take_messages-clause-refused : goal.returns-in_err-take_messages-clause-refused
returns-in_err-take_messages-clause-refused c =
    let failed = err_from_is_err_and c.from_residual.result c.from_residual.ensures.1 in
    let begun =
    taken-whole _ _ _ c.args.input.now
    (begins c.first_message_law.ensures.none c.story_law.ensures.all c.open-feed.result c.new-rows.result
    c.open-feed.ensures.shown (ap rows_of c.new-rows.ensures.none) c.new-rows.ensures.none c.args.input.now) in
    rw (failed.1, failed.2) (c.in_err-take_messages.ensures.refused (story_of c.args.input.now) [] begun)

pub returns-clause-means : goal.returns-clause-means
returns-clause-means c =
    let begun =
    taken-whole _ _ _ c.args.input.now
    (begins c.first_message_law.ensures.none c.story_law.ensures.all c.open-feed.result c.new-rows.result
    c.open-feed.ensures.shown (ap rows_of c.new-rows.ensures.none) c.new-rows.ensures.none c.args.input.now) in
    let taken = c.in_ok-take_messages.ensures.taken (story_of c.args.input.now) [] begun in
    IfOk-weaker c.complete.result _ _ (λ x so. so (story_of c.args.input.now) taken) c.complete.ensures.means

pub returns-clause-within : goal.returns-clause-within
returns-clause-within c =
    let begun =
    taken-whole _ _ _ c.args.input.now
    (begins c.first_message_law.ensures.none c.story_law.ensures.all c.open-feed.result c.new-rows.result
    c.open-feed.ensures.shown (ap rows_of c.new-rows.ensures.none) c.new-rows.ensures.none c.args.input.now) in
    let taken = c.in_ok-take_messages.ensures.taken (story_of c.args.input.now) [] begun in
    IfOk-weaker c.complete.result _ _ (λ x so. so (story_of c.args.input.now) taken) c.complete.ensures.within

pub returns-clause-kept : goal.returns-clause-kept
returns-clause-kept c =
    let begun =
    taken-whole _ _ _ c.args.input.now
    (begins c.first_message_law.ensures.none c.story_law.ensures.all c.open-feed.result c.new-rows.result
    c.open-feed.ensures.shown (ap rows_of c.new-rows.ensures.none) c.new-rows.ensures.none c.args.input.now) in
    let taken = c.in_ok-take_messages.ensures.taken (story_of c.args.input.now) [] begun in
    IfOk-weaker c.complete.result _ _ (λ x so. so (story_of c.args.input.now) taken) c.complete.ensures.kept

pub returns-clause-accepted : goal.returns-clause-accepted
returns-clause-accepted c =
    let begun =
    taken-whole _ _ _ c.args.input.now
    (begins c.first_message_law.ensures.none c.story_law.ensures.all c.open-feed.result c.new-rows.result
    c.open-feed.ensures.shown (ap rows_of c.new-rows.ensures.none) c.new-rows.ensures.none c.args.input.now) in
    let taken = c.in_ok-take_messages.ensures.taken (story_of c.args.input.now) [] begun in
    IfOk-weaker c.complete.result _ _ (λ x so. so (story_of c.args.input.now) taken) c.complete.ensures.accepted

pub returns-clause-refused : goal.returns-clause-refused
returns-clause-refused c =
    let begun =
    taken-whole _ _ _ c.args.input.now
    (begins c.first_message_law.ensures.none c.story_law.ensures.all c.open-feed.result c.new-rows.result
    c.open-feed.ensures.shown (ap rows_of c.new-rows.ensures.none) c.new-rows.ensures.none c.args.input.now) in
    let taken = c.in_ok-take_messages.ensures.taken (story_of c.args.input.now) [] begun in
    IfErr-weaker c.complete.result _ _ (λ x so. so (story_of c.args.input.now) taken) c.complete.ensures.refused
