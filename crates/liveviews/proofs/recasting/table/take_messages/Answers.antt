use Rattle.std.proofs.Common.{rules}
use Rattle.std.proofs.lemmas.Result.{err_from_is_err_and}
use Rattle.liveviews.proofs.Inputs.{taken-all, taken-rest}
use Rattle.liveviews.proofs.recasting.table.take_messages.Goals as goal

pub returns-in_err-used-clause-refused : goal.returns-in_err-used-clause-refused
returns-in_err-used-clause-refused c =
    let failed = err_from_is_err_and c.from_residual.result c.from_residual.ensures.1 in
    rw (failed.1, failed.2)
    (λ s later taken. c.in_err-used.ensures.refused s later (c.loop-rest.invariant.2 s later taken))

pub loop-rest-preserved : goal.loop-rest-preserved
loop-rest-preserved c = (
  c.in_ok-used.ensures.open,
  c.in_ok-used.ensures.counted,
  λ s later taken.
      taken-rest s c.take_message.new.feed c.take_message.new.rows c.loop-rest.rest.now later c.in_ok-used.used
      (c.in_ok-used.ensures.taken s later (c.loop-rest.invariant.2 s later taken)),
)

pub returns-clause-taken : goal.returns-clause-taken
returns-clause-taken c = λ s later taken.
    taken-all s c.loop-rest.feed c.loop-rest.rows c.loop-rest.rest.now later (search rules)
    (c.loop-rest.invariant.2 s later taken)
