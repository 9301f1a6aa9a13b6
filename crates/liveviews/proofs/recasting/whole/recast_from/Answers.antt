use Rattle.std.proofs.lemmas.Result.{err_from_is_err_and}
use Rattle.liveviews.proofs.Recasts.{recasts-source, unread-source}
use Rattle.liveviews.proofs.SourceLemmas.{source-weaker}
use Rattle.liveviews.proofs.recasting.whole.recast_from.Goals as goal

pub returns-in_err-read-clause-recasts : goal.returns-in_err-read-clause-recasts
returns-in_err-read-clause-recasts g c =
    let failed = err_from_is_err_and c.from_residual.result c.from_residual.ensures.1 in
    rw (failed.1, failed.2) (unread-source _ _ c.in_err-read.field-0.0)

pub returns-in-Ok-clause-recasts : goal.returns-in-Ok-clause-recasts
returns-in-Ok-clause-recasts g c =
    let came =
    recasts-source _ _ _ c.in_ok-read.read c.put.result c.in_ok-read.ensures.read c.put.ensures.recasts in
    rw c.in-Ok.is at came

pub returns-in-Ok-clause-accepted : goal.returns-in-Ok-clause-accepted
returns-in-Ok-clause-accepted g c =
    let accepted = rw c.in-Ok.is at c.put.ensures.accepted in
    source-weaker _ _ _ c.in_ok-read.ensures.read accepted

pub returns-in-Err-clause-recasts : goal.returns-in-Err-clause-recasts
returns-in-Err-clause-recasts g c =
    let came =
    recasts-source _ _ _ c.in_ok-read.read c.put.result c.in_ok-read.ensures.read c.put.ensures.recasts in
    rw c.in-Err.is at came
