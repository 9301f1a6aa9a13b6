use Rattle.std.proofs.Common.{None, Some}
use Rattle.feed.specs.Events.{given}
use Rattle.feed.specs.States.{retained_in}
use Rattle.feed.specs.Shown.{event_seen}
use Rattle.feed.proofs.FeedLemmas.{
  after-fault,
  gives-fault,
  gives-memory,
  gives-ok,
  is-at,
  leads-validated,
  leads-none,
  opened,
  read-none,
  read-some,
  shown,
  shows-same,
}
use Rattle.feed.proofs.feed.Feed.prepare_open.Goals as goal

pub returns-in-Err-clause-answer : goal.returns-in-Err-clause-answer
returns-in-Err-clause-answer c = λ s shows.
    gives-fault c.args.self.now s c.args.piece.now c.in-Err.fault c.requires shows c.in-Err.ensures.lack
    (c.in-Err.ensures.answer (retained_in s) (is-at _ s (shown _ _ s c.self.view_is shows)))

pub returns-in-Err-clause-fault : goal.returns-in-Err-clause-fault
returns-in-Err-clause-fault c = λ s shows.
    shows-same _ c.discard_prepared.new.self _ c.discard_prepared.ensures.framing c.discard_prepared.ensures.table
    c.discard_prepared.ensures.condition
    (after-fault _ s c.args.piece.now c.in-Err.fault c.validate.new.framer c.validate.new.dicts
    c.condition_after-self-inside.result None
    c.self.inside.condition (shown _ _ s c.self.view_is shows) c.in-Err.ensures.same c.in-Err.ensures.entries
    c.condition_after-self-inside.ensures)

pub returns-in_default-clause-answer : goal.returns-in_default-clause-answer
returns-in_default-clause-answer c = λ s shows.
    gives-ok c.args.self.now s c.args.piece.now (given c.in-Ok.validated.used None) c.requires shows
    (read-none (retained_in s) c.args.piece.now c.in-Ok.validated c.in_default.is
    (c.in-Ok.ensures.answer (retained_in s) (is-at _ s (shown _ _ s c.self.view_is shows))))

pub returns-in_default-clause-leads : goal.returns-in_default-clause-leads
returns-in_default-clause-leads c = λ s shows.
    let inside = shown _ _ s c.self.view_is shows in
    leads-none _ s c.args.piece.now c.in-Ok.validated c.validate.new.framer c.validate.new.dicts c.in_default.is inside
    (c.in-Ok.ensures.leads s.declared s.bytes (is-at _ s inside))

pub returns-clause-answer : goal.returns-clause-answer
returns-clause-answer c = λ s shows.
    gives-ok c.args.self.now s c.args.piece.now
    (given c.in-Ok.validated.used (Some (event_seen c.in-Some.coming.event))) c.requires shows
    (read-some (retained_in s) c.args.piece.now c.in-Ok.validated c.in-Some.coming c.in-Some.is
    (c.in-Ok.ensures.answer (retained_in s) (is-at _ s (shown _ _ s c.self.view_is shows))))

pub returns-clause-leads : goal.returns-clause-leads
returns-clause-leads c = λ s shows.
    let inside = shown _ _ s c.self.view_is shows in
    leads-validated _ s c.args.piece.now c.in-Ok.validated c.in-Some.coming c.validate.new.framer c.validate.new.dicts
    c.in-Some.is
    (opened _ _ c.self.view_is c.requires) inside (c.in-Ok.ensures.leads s.declared s.bytes (is-at _ s inside))
    (rw c.in-Some.is at c.in-Ok.ensures.next)

pub returns-clause-or_memory : goal.returns-clause-or_memory
returns-clause-or_memory c = λ some s shows.
    gives-memory c.args.self.now s c.args.piece.now c.requires (rw c.in-Some.is at c.in-Ok.ensures.some) shows
