use Rattle.std.proofs.lemmas.Result.{err_from_is_err_and}
use Rattle.liveviews.proofs.Shows.{remains-ends, remains-valid}
use Rattle.liveviews.proofs.show.Showing.finish.Goals as goal

pub returns-in_err-finish-clause-fault : goal.returns-in_err-finish-clause-fault
returns-in_err-finish-clause-fault c =
    let failed = err_from_is_err_and c.from_residual.result c.from_residual.ensures.1 in
    rw (failed.1, failed.2) (λ a left.
    remains-ends c.pieces_law.ensures.none a c.args.self.now.feed _ c.in_err-finish.ensures.answer left)

pub returns-clause-valid : goal.returns-clause-valid
returns-clause-valid c = λ input left.
    remains-valid c.pieces_law.ensures.none c.account_law.ensures c.args.self.now.feed _ c.in_ok-finish.ensures.answer
    input left
