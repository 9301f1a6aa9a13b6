use Rattle.std.proofs.lemmas.Result.{err_from_is_err_and}
use Rattle.liveviews.proofs.Accounts.{left-breaks, left-step, open-step, push-uses}
use Rattle.liveviews.proofs.inspecting.events.Inspection.take.Goals as goal

pub returns-in_err-fed-clause-fault : goal.returns-in_err-fed-clause-fault
returns-in_err-fed-clause-fault c =
    let failed = err_from_is_err_and c.from_residual.result c.from_residual.ensures.1 in
    rw (failed.1, failed.2)
    (λ a later. left-breaks c.pieces_law.ensures.refusal a c.args.self.now c.args.piece.now later _ c.requires.some
    c.in_err-fed.ensures.answer)

pub returns-clause-open : goal.returns-clause-open
returns-clause-open c =
    open-step c.args.self.now c.note.new.self c.push.new.self c.args.piece.now c.in_ok-fed.fed
    c.in_ok-fed.ensures.answer c.in_ok-fed.ensures.after c.in_ok-note.ensures.feed c.in_ok-note.ensures.ended
    c.requires.open

pub returns-clause-used : goal.returns-clause-used
returns-clause-used c =
    rw c.in_ok-note.ensures.used (
    push-uses c.cut_law.ensures.all c.cut_law.ensures.uses c.args.self.now c.args.piece.now c.in_ok-fed.fed
    c.requires.some c.requires.open
    c.in_ok-fed.ensures.answer)

pub returns-clause-left : goal.returns-clause-left
returns-clause-left c =
    rw c.in_ok-note.ensures.used (λ a later.
    left-step c.pieces_law.ensures.push a c.args.self.now c.note.new.self c.push.new.self c.args.piece.now later
    c.in_ok-fed.fed
    c.in_ok-fed.ensures.answer c.in_ok-fed.ensures.after c.in_ok-note.ensures.feed c.in_ok-note.ensures.text
    c.in_ok-note.ensures.ended)
