use Rattle.std.proofs.Common.{rules, take}
use Rattle.liveviews.proofs.Shows.{passes-all, passes-fault, passes-more, some-source}
use Rattle.liveviews.proofs.SourceLemmas.{read-end, read-more, read-stop}
use Rattle.liveviews.proofs.show.Showing.take_source.Goals as goal

pub returns-in-Err-clause-passed : goal.returns-in-Err-clause-passed
returns-in-Err-clause-passed g c = some-source _ _ (λ input. tt)

pub returns-in-Err-next_piece-clause-passed : goal.returns-in-Err-next_piece-clause-passed
returns-in-Err-next_piece-clause-passed g c = some-source _ _ (λ input. tt)

pub returns-then-is_err-clause-passed : goal.returns-then-is_err-clause-passed
returns-then-is_err-clause-passed g c = some-source _ _ (λ input. tt)

pub returns-clause-passed : goal.returns-clause-passed
returns-clause-passed g c = some-source _ _ (λ input. tt)

pub returns-then-len-eq0-clause-passed : goal.returns-then-len-eq0-clause-passed
returns-then-len-eq0-clause-passed g c =
    read-end _ _ _ c.in-Ok-next_piece.len c.next_piece.new.room.items _ _ c.loop.invariant.1 c.in-Ok-next_piece.ensures.took
    c.if-len-eq0.true (c.in-Ok-next_piece.ensures.end c.if-len-eq0.true)
    (λ bytes left. passes-all c.loop.self.feed bytes left)

pub returns-in-Err-take_all-clause-passed : goal.returns-in-Err-take_all-clause-passed
returns-in-Err-take_all-clause-passed g c =
    read-stop _ _ _ (take c.in-Ok-next_piece.len c.deref.result.now) _ _ c.loop.invariant.1
    (rw (← c.deref.ensures.value) at c.in-Ok-next_piece.ensures.took)
    (λ bytes later left. passes-fault c.loop.self.feed c.take_all.new.self.feed _ c.in-Err-take_all.fault
    c.in-Err-take_all.ensures.fault bytes later left)

pub loop-preserved : goal.loop-preserved
loop-preserved g c = (
  c.in_default.ensures.open,
  read-more _ _ _ (take c.in-Ok-next_piece.len c.deref.result.now) _ _ c.loop.invariant.1
      (rw (← c.deref.ensures.value) at c.in-Ok-next_piece.ensures.took)
      (λ bytes left later. passes-more c.loop.self.feed c.take_all.new.self.feed _ c.in_default.ensures.left bytes left
      later),
)
