use Rattle.liveviews.proofs.Accounts.{fault-told}
use Rattle.liveviews.proofs.inspecting.events.told.Goals as goal

pub returns-in_ok-write_refusal-in-Err : goal.returns-in_ok-write_refusal-in-Err
returns-in_ok-write_refusal-in-Err c = λ input ran.
    fault-told _ input c.args.ran c.in-Err.fault _ c.in-Err.is
    (λ memory. let same = rw memory at c.eq.ensures in absurd (cc (same, c.if-eq.false)))
    ran c.in_ok-write_refusal-in-Err.ensures
