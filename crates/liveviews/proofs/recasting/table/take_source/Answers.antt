use Rattle.std.proofs.Common.{rules, take}
use Rattle.liveviews.proofs.Inputs.{source-all, source-fault, source-more}
use Rattle.liveviews.proofs.SourceLemmas.{read-end, read-more, read-stop}
use Rattle.liveviews.proofs.recasting.table.take_source.Goals as goal

pub returns-then-len-eq0-clause-taken : goal.returns-then-len-eq0-clause-taken
returns-then-len-eq0-clause-taken g c =
    read-end _ _ _ c.in_ok-len.len c.next_piece.new.room.items _ _ c.loop.invariant.2 c.in_ok-len.ensures.took
    c.if-len-eq0.true (c.in_ok-len.ensures.end c.if-len-eq0.true)
    (λ bytes taken. source-all c.loop.feed c.loop.rows _ bytes taken)

pub returns-in-Err-clause-taken : goal.returns-in-Err-clause-taken
returns-in-Err-clause-taken g c =
    read-stop _ _ _ (take c.in_ok-len.len c.deref.result.now) _ _ c.loop.invariant.2 (rw (← c.deref.ensures.value) at c.in_ok-len.ensures.took)
    (λ bytes later taken. source-fault c.loop.feed c.take_messages.new.feed c.loop.rows c.take_messages.new.rows _
    c.in-Err.cause c.in-Err.ensures.refused bytes later taken)

pub loop-preserved : goal.loop-preserved
loop-preserved g c = (
  c.in_default.ensures.open,
  c.in_default.ensures.counted,
  read-more _ _ _ (take c.in_ok-len.len c.deref.result.now) _ _ c.loop.invariant.2 (rw (← c.deref.ensures.value) at c.in_ok-len.ensures.took)
      (λ bytes taken later. source-more c.loop.feed c.take_messages.new.feed c.loop.rows c.take_messages.new.rows _
      c.in_default.ensures.taken bytes taken later),
)
