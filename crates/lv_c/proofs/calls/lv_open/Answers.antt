use Rattle.lv_c.proofs.OpenedSessions.{opens-kept}
use Rattle.lv_c.proofs.calls.lv_open.Goals as goal

pub returns-in-Ok : goal.returns-in-Ok
returns-in-Ok c =
    rw c.in_default.ensures.taken (opens-kept _ _ _ c.in-Ok.held c.in-Ok.ensures.opens c.keep.ensures)
