use Rattle.std.proofs.lemmas.Result.{err_from_is_err_and}
use Rattle.liveviews.proofs.Accounts.{left-ends, left-finishes, written-end, written-none}
use Rattle.liveviews.proofs.inspecting.events.Inspection.end.Goals as goal

pub returns-in_err-finish-clause-fault : goal.returns-in_err-finish-clause-fault
returns-in_err-finish-clause-fault c =
    let failed = err_from_is_err_and c.from_residual.result c.from_residual.ensures.1 in
    rw (failed.1, failed.2) (λ a left.
    left-ends c.pieces_law.ensures.none a c.args.self.now _ left c.in_err-finish.ensures.answer)

pub returns-in_ok-push_str-clause-complete : goal.returns-in_ok-push_str-clause-complete
returns-in_ok-push_str-clause-complete c = λ a left.
    left-finishes c.pieces_law.ensures.none a c.args.self.now _ _ left c.in_ok-finish.ensures.answer
    (written-end _ _ _ c.if-not-self.true c.in_ok-push_str.ensures.bytes)

pub returns-else-not-self-clause-complete : goal.returns-else-not-self-clause-complete
returns-else-not-self-clause-complete c = λ a left.
    left-finishes c.pieces_law.ensures.none a c.args.self.now _ _ left c.in_ok-finish.ensures.answer
    (written-none _ _ c.if-not-self.false)
