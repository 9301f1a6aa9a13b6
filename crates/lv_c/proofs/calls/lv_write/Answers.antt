use Rattle.std.proofs.Common.{sym}
use Rattle.lv_c.proofs.calls.lv_write.Goals as goal

pub returns : goal.returns
returns c =
    rw c.in-Some.ensures.taken (
      _,
      c.put.ensures,
      c.write-answer.result,
      c.answer_view.ensures,
      rw (sym c.deref_mut.ensures.value) c.write-answer.ensures,
    )
