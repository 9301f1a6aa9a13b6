use Rattle.std.proofs.lemmas.Result.{err_from_is_err_and}
use Rattle.liveviews.proofs.Inputs.{end-refused, reached-complete}
use Rattle.liveviews.proofs.recasting.table.end.Goals as goal

pub returns-in_err-finish-clause-refused : goal.returns-in_err-finish-clause-refused
returns-in_err-finish-clause-refused c =
    let failed = err_from_is_err_and c.from_residual.result c.from_residual.ensures.1 in
    rw (failed.1, failed.2)
    (λ s rows reached. end-refused c.story_law.ensures.partial c.story_law.ensures.partial_held s c.args.feed.now rows _
    c.in_err-finish.ensures.answer reached)

pub returns-clause-complete : goal.returns-clause-complete
returns-clause-complete c = λ s rows reached.
    reached-complete c.story_law.ensures.partial c.story_law.ensures.partial_held s c.args.feed.now c.finish.new.self rows _
    c.in_ok-finish.ensures.answer c.in_ok-finish.ensures.after reached
