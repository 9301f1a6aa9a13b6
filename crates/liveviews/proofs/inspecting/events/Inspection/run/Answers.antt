use Rattle.std.proofs.lemmas.Result.{IfErr-weaker, err_from_is_err_and}
use Rattle.liveviews.specs.Inspect.{account_of}
use Rattle.liveviews.proofs.Accounts.{fresh-left, left-whole}
use Rattle.liveviews.proofs.inspecting.events.Inspection.run.Goals as goal

pub returns-in_err-take_all-clause-fault : goal.returns-in_err-take_all-clause-fault
returns-in_err-take_all-clause-fault c =
    let failed = err_from_is_err_and c.from_residual.result c.from_residual.ensures.1 in
    let begins = fresh-left c.args.self.now c.args.input.now c.requires.fresh in
    rw (failed.1, failed.2)
    (c.in_err-take_all.ensures.fault (account_of c.args.input.now) _ (left-whole _ _ c.args.input.now begins))

pub returns-clause-fault : goal.returns-clause-fault
returns-clause-fault c =
    let begins = fresh-left c.args.self.now c.args.input.now c.requires.fresh in
    let left =
    c.in_ok-take_all.ensures.left (account_of c.args.input.now) _ (left-whole _ _ c.args.input.now begins) in
    IfErr-weaker c.end.result _ _ (λ f breaks. breaks (account_of c.args.input.now) left) c.end.ensures.fault
