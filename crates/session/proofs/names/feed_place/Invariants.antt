use Rattle.session.proofs.Named.{Passed}
use Rattle.session.proofs.names.feed_place.Given as goal

abbrev pub invariant-loop-place : goal.invariant-loop-place
invariant-loop-place l = Passed (λ f. f.name) l.feeds l.name l.place
