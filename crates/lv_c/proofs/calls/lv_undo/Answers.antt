use Rattle.std.proofs.Common.{sym}
use Rattle.lv_c.proofs.calls.lv_undo.Goals as goal

pub returns : goal.returns
returns c =
    rw c.in-Some.ensures.taken (
      _,
      c.put.ensures,
      c.undo-answer.result,
      c.answer_end.ensures,
      rw (sym c.deref_mut.ensures.value) c.undo-answer.ensures,
    )
