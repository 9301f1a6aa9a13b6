use Rattle.std.proofs.Common.{ap, refl}
use Rattle.std.proofs.lemmas.Result.{err_from_is_err_and}
use Rattle.feed.specs.Shown.{event_seen}
use Rattle.liveviews.proofs.BroughtLemmas.{brings}
use Rattle.liveviews.proofs.Stories.{
  came,
  came-none,
  comes,
  end-reached,
  more-reached,
  next-reached,
  push-refused,
  pushed-open,
  pushed-uses,
  typed-event,
}
use Rattle.liveviews.proofs.reading.next_message.next_message.Goals as goal

pub returns-in_err-fed-clause-refused : goal.returns-in_err-fed-clause-refused
returns-in_err-fed-clause-refused c =
    let failed = err_from_is_err_and c.from_residual.result c.from_residual.ensures.1 in
    rw (failed.1, failed.2)
    (λ s rows later reached. push-refused c.cut_law.ensures.partial c.cut_law.ensures.faults
    c.story_law.ensures.faults s rows c.args.feed.now c.args.piece.now later c.in_err-fed.field-0.0 c.requires.some
    c.in_err-fed.ensures.answer reached)

pub returns-in_default-clause-used : goal.returns-in_default-clause-used
returns-in_default-clause-used c =
    pushed-uses c.cut_law.ensures.all c.cut_law.ensures.uses c.args.feed.now c.args.piece.now c.in_ok-fed.fed
    c.requires.some c.requires.open c.in_ok-fed.ensures.answer

pub returns-in_default-clause-open : goal.returns-in_default-clause-open
returns-in_default-clause-open c =
    pushed-open c.args.feed.now c.push.new.self c.args.piece.now c.in_ok-fed.fed c.requires.open
    c.in_ok-fed.ensures.after

pub returns-in-Schema-clause-used : goal.returns-in-Schema-clause-used
returns-in-Schema-clause-used c =
    pushed-uses c.cut_law.ensures.all c.cut_law.ensures.uses c.args.feed.now c.args.piece.now c.in_ok-fed.fed
    c.requires.some c.requires.open c.in_ok-fed.ensures.answer

pub returns-in-Schema-clause-open : goal.returns-in-Schema-clause-open
returns-in-Schema-clause-open c =
    pushed-open c.args.feed.now c.push.new.self c.args.piece.now c.in_ok-fed.fed c.requires.open
    c.in_ok-fed.ensures.after

pub returns-in-Dictionary-clause-used : goal.returns-in-Dictionary-clause-used
returns-in-Dictionary-clause-used c =
    pushed-uses c.cut_law.ensures.all c.cut_law.ensures.uses c.args.feed.now c.args.piece.now c.in_ok-fed.fed
    c.requires.some c.requires.open c.in_ok-fed.ensures.answer

pub returns-in-Dictionary-clause-open : goal.returns-in-Dictionary-clause-open
returns-in-Dictionary-clause-open c =
    pushed-open c.args.feed.now c.push.new.self c.args.piece.now c.in_ok-fed.fed c.requires.open
    c.in_ok-fed.ensures.after

pub returns-in-Batch-clause-used : goal.returns-in-Batch-clause-used
returns-in-Batch-clause-used c =
    pushed-uses c.cut_law.ensures.all c.cut_law.ensures.uses c.args.feed.now c.args.piece.now c.in_ok-fed.fed
    c.requires.some c.requires.open c.in_ok-fed.ensures.answer

pub returns-in-Batch-clause-open : goal.returns-in-Batch-clause-open
returns-in-Batch-clause-open c =
    pushed-open c.args.feed.now c.push.new.self c.args.piece.now c.in_ok-fed.fed c.requires.open
    c.in_ok-fed.ensures.after

pub returns-clause-used : goal.returns-clause-used
returns-clause-used c =
    pushed-uses c.cut_law.ensures.all c.cut_law.ensures.uses c.args.feed.now c.args.piece.now c.in_ok-fed.fed
    c.requires.some c.requires.open c.in_ok-fed.ensures.answer

pub returns-clause-open : goal.returns-clause-open
returns-clause-open c =
    pushed-open c.args.feed.now c.push.new.self c.args.piece.now c.in_ok-fed.fed c.requires.open
    c.in_ok-fed.ensures.after

pub returns-in_default-clause-passed : goal.returns-in_default-clause-passed
returns-in_default-clause-passed c =
    let none =
    came-none c.args.feed.now c.push.new.self c.args.piece.now c.in_ok-fed.fed c.in_ok-fed.ensures.answer
    c.in_ok-fed.ensures.after c.in_default.is in
    λ is s rows later reached.
    more-reached c.cut_law.ensures.partial c.cut_law.ensures.all s rows _ _
    c.args.piece.now later _ c.requires.some none reached

pub returns-in-Schema-clause-passed : goal.returns-in-Schema-clause-passed
returns-in-Schema-clause-passed c =
    let event =
    came c.args.feed.now c.push.new.self c.args.piece.now c.in_ok-fed.fed c.in-Some.event _
    c.in_ok-fed.ensures.answer c.in_ok-fed.ensures.after
    c.in-Some.is (ap event_seen c.in-Schema.is) in
    let law = c.story_law.ensures in
    let cut = c.cut_law.ensures in
    λ is s rows later reached.
    next-reached c.first_message_law.ensures.none s rows _ _ _ (record { stays = refl })
    (λ k rest. refl)
    (comes cut.partial cut.whole cut.uses law.event law.held s rows _ _ c.args.piece.now
    later _ _ c.requires.some event reached)

pub returns-in-Dictionary-clause-passed : goal.returns-in-Dictionary-clause-passed
returns-in-Dictionary-clause-passed c =
    let event =
    came c.args.feed.now c.push.new.self c.args.piece.now c.in_ok-fed.fed c.in-Some.event _
    c.in_ok-fed.ensures.answer c.in_ok-fed.ensures.after
    c.in-Some.is (ap event_seen c.in-Dictionary.is) in
    let law = c.story_law.ensures in
    let cut = c.cut_law.ensures in
    λ is s rows later reached.
    next-reached c.first_message_law.ensures.none s rows _ _ _ (record { stays = refl })
    (λ k rest. refl)
    (comes cut.partial cut.whole cut.uses law.event law.held s rows _ _ c.args.piece.now
    later _ _ c.requires.some event reached)

pub returns-in-Batch-clause-passed : goal.returns-in-Batch-clause-passed
returns-in-Batch-clause-passed c = λ is. absurd (cc)

pub returns-in-Batch-clause-brought : goal.returns-in-Batch-clause-brought
returns-in-Batch-clause-brought c =
    let event =
    came c.args.feed.now c.push.new.self c.args.piece.now c.in_ok-fed.fed c.in-Some.event _
    c.in_ok-fed.ensures.answer c.in_ok-fed.ensures.after
    c.in-Some.is (ap event_seen c.in-Batch.is) in
    let law = c.story_law.ensures in
    let cut = c.cut_law.ensures in
    let typed =
    typed-event c.push.new.self.framing.current.known.schema c.in_ok-fed.fed c.in-Some.event _
    c.in_ok-fed.ensures.typed c.in-Some.is c.in-Batch.is in
    λ s rows later reached.
    brings c.first_message_law.ensures.none law.knows s rows _ _ c.in-Batch.columns c.in-Batch.count c.in-Batch.body
    typed
    (comes cut.partial cut.whole cut.uses law.event law.held s rows _ _ c.args.piece.now later _ _ c.requires.some event
    reached)

pub returns-clause-passed : goal.returns-clause-passed
returns-clause-passed c =
    let event =
    came c.args.feed.now c.push.new.self c.args.piece.now c.in_ok-fed.fed c.in-Some.event _
    c.in_ok-fed.ensures.answer c.in_ok-fed.ensures.after
    c.in-Some.is (ap event_seen c.in-End.is) in
    let law = c.story_law.ensures in
    let cut = c.cut_law.ensures in
    let typed =
    typed-event c.push.new.self.framing.current.known.schema c.in_ok-fed.fed c.in-Some.event _
    c.in_ok-fed.ensures.typed c.in-Some.is c.in-End.is in
    λ is s rows later reached.
    end-reached s rows _ _ typed
    (comes cut.partial cut.whole cut.uses law.event law.held s rows _ _ c.args.piece.now
    later _ _ c.requires.some event reached)
