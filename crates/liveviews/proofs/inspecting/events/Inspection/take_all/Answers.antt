use Rattle.std.proofs.lemmas.Result.{err_from_is_err_and}
use Rattle.liveviews.proofs.inspecting.events.Inspection.take_all.Goals as goal

pub returns-in_err-used-clause-fault : goal.returns-in_err-used-clause-fault
returns-in_err-used-clause-fault c =
    let failed = err_from_is_err_and c.from_residual.result c.from_residual.ensures.1 in
    rw (failed.1, failed.2) (λ a later left.
    c.in_err-used.ensures.fault a later (c.loop-rest.invariant.1 a later left))
