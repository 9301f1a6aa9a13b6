use Rattle.std.proofs.Common.{sym}
use Rattle.lv_c.proofs.calls.lv_push.Goals as goal

pub returns : goal.returns
returns c =
    rw c.in-Some.ensures.taken (
      _,
      c.put.ensures,
      c.push-answer.result,
      c.answer_push.ensures,
      rw (sym c.deref_mut.ensures.value) c.push-answer.ensures,
    )
