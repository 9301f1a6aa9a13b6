use Rattle.std.proofs.Common.{refl, subst}
use Rattle.std.proofs.lemmas.Result.{err_from_is_err_and}
use Rattle.dictionaries.specs.Table.{values_in}
use Rattle.feed.specs.Shown.{HasValues}
use Rattle.feed.proofs.ValidationLemmas.{
  came,
  validated-body,
  validated-event,
  validated-fault,
  validated-none,
  leads-none,
  leads-whole,
  has-after,
  has-same,
}
use Rattle.feed.proofs.validate.validate.Goals as goal

pub returns-in_err-used-clause-answer : goal.returns-in_err-used-clause-answer
returns-in_err-used-clause-answer c =
    let failed = err_from_is_err_and c.from_residual.result c.from_residual.ensures.1 in
    rw (failed.1, failed.2) (λ k at.
    validated-fault k c.args.framer.now.current c.args.dicts.now c.args.piece.now
    c.in_err-used.field-0.0 at c.in_err-used.ensures.fault)

pub returns-in_default-clause-answer : goal.returns-in_default-clause-answer
returns-in_default-clause-answer c = λ k at.
    validated-none k c.args.framer.now.current c.prepare.new.self.prepared c.args.dicts.now c.args.piece.now
    c.in_ok-used.field-0 at
    c.in_ok-used.ensures.ok c.in_default.is

pub returns-in_default-clause-leads : goal.returns-in_default-clause-leads
returns-in_default-clause-leads c = λ declared bytes at.
    leads-none c.first_message_law.ensures declared bytes c.args.framer.now.current c.prepare.new.self.prepared
    c.args.dicts.now c.args.dicts.now c.args.piece.now c.in_ok-used.field-0 at
    c.in_ok-used.ensures.ok c.in_default.is refl

pub take_message-requires-clause-has : goal.take_message-requires-clause-has
take_message-requires-clause-has c =
    subst (λ o. HasValues o (values_in c.args.dicts.now)) (rw c.in-Some.is at c.in_ok-used.ensures.schema)
    (has-after c.first_message_law.ensures.message c.args.framer.now.current c.prepare.new.self.prepared
    c.args.piece.now c.in_ok-used.field-0
    (values_in c.args.dicts.now) c.in_ok-used.ensures.ok c.requires)

pub returns-in_err-coming-clause-answer : goal.returns-in_err-coming-clause-answer
returns-in_err-coming-clause-answer c =
    let failed = err_from_is_err_and c.from_residual-in_err-coming.result c.from_residual-in_err-coming.ensures.1 in
    rw (failed.1, failed.2) (λ k at.
    validated-body c.place_law.ensures.same c.batches_law.ensures.values k c.args.framer.now.current
    c.prepare.new.self.prepared c.args.dicts.now
    c.args.piece.now c.in_ok-used.field-0.used c.in-Some.message c.in_err-coming.field-0.0 at
    (came k c.args.framer.now.current c.prepare.new.self.prepared c.args.dicts.now c.args.piece.now c.in_ok-used.field-0
    c.in-Some.message at
    c.in_ok-used.ensures.ok c.in-Some.is) c.in_err-coming.ensures.seen)

pub returns-in_err-coming-clause-has_none : goal.returns-in_err-coming-clause-has_none
returns-in_err-coming-clause-has_none c =
    let failed = err_from_is_err_and c.from_residual-in_err-coming.result c.from_residual-in_err-coming.ensures.1 in
    rw (failed.1, c.take_message.ensures.framing)
    (has-same c.prepare.new.self.prepared.known.schema c.args.dicts.now c.take_message.new.dicts
    c.take_message.ensures.same
    (has-after c.first_message_law.ensures.message c.args.framer.now.current c.prepare.new.self.prepared
    c.args.piece.now c.in_ok-used.field-0
    (values_in c.args.dicts.now) c.in_ok-used.ensures.ok c.requires))

pub returns-clause-answer : goal.returns-clause-answer
returns-clause-answer c = λ k at.
    validated-event c.place_law.ensures.same c.batches_law.ensures.values k c.args.framer.now.current
    c.prepare.new.self.prepared c.args.dicts.now
    c.args.piece.now c.in_ok-used.field-0.used c.in-Some.message _ at
    (came k c.args.framer.now.current c.prepare.new.self.prepared c.args.dicts.now c.args.piece.now c.in_ok-used.field-0
    c.in-Some.message at
    c.in_ok-used.ensures.ok c.in-Some.is) c.in_ok-coming.ensures.seen

pub returns-clause-leads : goal.returns-clause-leads
returns-clause-leads c = rw c.take_message.ensures.framing (λ declared bytes at.
    leads-whole c.first_message_law.ensures declared bytes c.args.framer.now.current c.prepare.new.self.prepared
    c.args.dicts.now c.take_message.new.dicts c.args.piece.now
    c.in_ok-used.field-0.used c.in-Some.message c.in_ok-coming.coming.change at
    (came _ c.args.framer.now.current c.prepare.new.self.prepared c.args.dicts.now c.args.piece.now c.in_ok-used.field-0
    c.in-Some.message at
    c.in_ok-used.ensures.ok c.in-Some.is) c.in_ok-coming.ensures.change)
