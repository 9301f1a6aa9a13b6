use Rattle.std.proofs.lemmas.Result.{IfOk-weaker, err_from_is_err_and}
use Rattle.liveviews.specs.Buffered.{buffered_rows}
use Rattle.liveviews.proofs.recasting.table.complete.Goals as goal

pub returns-in_err-end-clause-refused : goal.returns-in_err-end-clause-refused
returns-in_err-end-clause-refused c =
    let failed = err_from_is_err_and c.from_residual.result c.from_residual.ensures.1 in
    rw (failed.1, failed.2) (λ s taken. c.in_err-end.ensures.refused s (buffered_rows c.args.rows) taken.0)

pub returns-clause-means : goal.returns-clause-means
returns-clause-means c =
    IfOk-weaker c.finish.result _ _
    (λ t means s taken. means s (c.in_ok-end.ensures.complete s (buffered_rows c.args.rows) taken.0)) c.finish.ensures.means

pub returns-clause-within : goal.returns-clause-within
returns-clause-within c =
    IfOk-weaker c.finish.result _ _
    (λ t within s taken. within s (c.in_ok-end.ensures.complete s (buffered_rows c.args.rows) taken.0)) c.finish.ensures.within

pub returns-clause-kept : goal.returns-clause-kept
returns-clause-kept c =
    IfOk-weaker c.finish.result _ _
    (λ t keeps s taken. keeps s (c.in_ok-end.ensures.complete s (buffered_rows c.args.rows) taken.0) taken.1) c.finish.ensures.kept
