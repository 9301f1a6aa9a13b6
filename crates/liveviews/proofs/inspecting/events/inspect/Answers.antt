use Rattle.std.proofs.lemmas.Result.{IfOk-weaker}
use Rattle.liveviews.proofs.Accounts.{has-run}
use Rattle.liveviews.proofs.Alike.{tells-status}
use Rattle.liveviews.proofs.inspecting.events.inspect.Goals as goal

pub returns-clause-tells : goal.returns-clause-tells
returns-clause-tells c =
    IfOk-weaker c.told.result _ _
    (λ i tells. tells c.args.input.now
    (has-run _ c.args.input.now c.run-ran.result c.run-ran.ensures.complete c.run-ran.ensures.fault))
    c.told.ensures

pub returns-clause-status : goal.returns-clause-status
returns-clause-status c =
    IfOk-weaker c.told.result _ _
    (λ i tells. tells-status c.account_law.ensures c.args.input.now _ i.status (tells c.args.input.now
    (has-run _ c.args.input.now c.run-ran.result c.run-ran.ensures.complete c.run-ran.ensures.fault)))
    c.told.ensures
