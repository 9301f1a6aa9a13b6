use Rattle.std.proofs.Common.{Err, Ok, ap, refl, sym, ◌∙◌}
use Rattle.std.proofs.lemmas.Result.{err_from_is_err_and}
use Rattle.session.proofs.Pushes.{end_shown}
use Rattle.session.proofs.finish.finish_of.Goals as goal

pub returns-in_err-finish : goal.returns-in_err-finish
returns-in_err-finish c = λ tables d shown.
    let failed = err_from_is_err_and c.from_residual.result c.from_residual.ensures.1 in
    let goes = sym (c.is_broken.ensures.shown d.fed shown.feed) ∙ c.if-is_broken.false in
    end_shown tables d c.args.link.now (Err c.in_err-finish.field-0.0) c.finish.new.self c.from_residual.result goes
    (failed.1 ∙ ap (λ e. Err e) failed.2) (c.in_err-finish.ensures.answer d.fed shown.feed)
    (c.in_err-finish.ensures.after d.fed shown.feed) shown

pub returns : goal.returns
returns c = λ tables d shown.
    let goes = sym (c.is_broken.ensures.shown d.fed shown.feed) ∙ c.if-is_broken.false in
    end_shown tables d c.args.link.now (Ok tt) c.finish.new.self (Ok tt) goes refl
    (c.in_ok-finish.ensures.answer d.fed shown.feed)
    (c.in_ok-finish.ensures.after d.fed shown.feed) shown
