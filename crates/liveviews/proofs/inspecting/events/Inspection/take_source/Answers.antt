use Rattle.std.proofs.Common.{rules, [], take}
use Rattle.liveviews.proofs.Accounts.{left-open, takes-all, takes-fault, takes-more}
use Rattle.liveviews.proofs.SourceLemmas.{read-end, read-more, read-stop}
use Rattle.liveviews.proofs.inspecting.events.Inspection.take_source.Goals as goal

pub returns-then-len-eq0 : goal.returns-then-len-eq0
returns-then-len-eq0 g c =
    read-end _ _ _ c.in_ok-len.len c.next_piece.new.room.items _ _ c.loop.invariant c.in_ok-len.ensures.took
    c.if-len-eq0.true (c.in_ok-len.ensures.end c.if-len-eq0.true)
    (λ bytes left. takes-all c.loop.self _ bytes left)

pub take_all-requires : goal.take_all-requires
take_all-requires g c = record { «open» = left-open _ c.loop.self [] (c.loop.invariant.so []) }

pub returns-in-Err : goal.returns-in-Err
returns-in-Err g c =
    read-stop _ _ _ (take c.in_ok-len.len c.deref.result.now) _ _ c.loop.invariant (rw (← c.deref.ensures.value) at c.in_ok-len.ensures.took)
    (λ bytes later left. takes-fault c.loop.self c.take_all.new.self _ c.in-Err.fault c.in-Err.ensures.fault bytes later
    left)

pub loop-preserved : goal.loop-preserved
loop-preserved g c =
    read-more _ _ _ (take c.in_ok-len.len c.deref.result.now) _ _ c.loop.invariant (rw (← c.deref.ensures.value) at c.in_ok-len.ensures.took)
    (λ bytes left later. takes-more c.loop.self _ c.take_all.new.self c.in_default.ensures.left bytes left later)
