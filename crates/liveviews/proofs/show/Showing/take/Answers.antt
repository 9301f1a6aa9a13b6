use Rattle.std.proofs.Common.{sym, subst, drop, ◌++◌}
use Rattle.std.proofs.lemmas.Result.{err_from_is_err_and}
use Rattle.feed.specs.Shown.{FeedParts}
use Rattle.liveviews.specs.Showing.{Remains}
use Rattle.liveviews.specs.Steps.{IsOpen}
use Rattle.liveviews.proofs.Shows.{remains-refused, remains-step, typed-cells}
use Rattle.liveviews.proofs.Stories.{pushed-open, pushed-uses}
use Rattle.liveviews.proofs.show.Showing.take.Goals as goal

pub returns-in_err-fed-clause-fault : goal.returns-in_err-fed-clause-fault
returns-in_err-fed-clause-fault g c =
    let failed = err_from_is_err_and c.from_residual.result c.from_residual.ensures.1 in
    rw (failed.1, failed.2) (λ a later left.
    remains-refused c.pieces_law.ensures.refusal a c.args.self.now.feed c.args.piece.now later c.in_err-fed.field-0.0
    c.requires.some c.in_err-fed.ensures.answer left)

pub note-requires : goal.note-requires
note-requires g c =
    typed-cells c.push.new.self.framing.current.known.schema c.in_ok-fed.fed.event c.in_ok-fed.ensures.typed

pub returns-clause-open : goal.returns-clause-open
returns-clause-open g c =
    subst IsOpen (sym c.note.ensures)
    (pushed-open c.args.self.now.feed c.push.new.self c.args.piece.now c.in_ok-fed.fed c.requires.open
    c.in_ok-fed.ensures.after)

pub returns-clause-used : goal.returns-clause-used
returns-clause-used g c =
    pushed-uses c.cut_law.ensures.all c.cut_law.ensures.uses c.args.self.now.feed c.args.piece.now c.in_ok-fed.fed
    c.requires.some c.requires.open c.in_ok-fed.ensures.answer

pub returns-clause-left : goal.returns-clause-left
returns-clause-left g c = λ a later left.
    subst (λ (f : FeedParts). Remains a f (drop c.in_ok-fed.fed.used c.args.piece.now ++ later)) (sym c.note.ensures)
    (remains-step c.pieces_law.ensures.push a c.args.self.now.feed c.push.new.self c.args.piece.now later
    c.in_ok-fed.fed c.in_ok-fed.ensures.answer c.in_ok-fed.ensures.after left)
