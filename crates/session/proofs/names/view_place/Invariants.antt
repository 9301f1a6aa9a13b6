use Rattle.session.proofs.Named.{Passed}
use Rattle.session.proofs.names.view_place.Given as goal

abbrev pub invariant-loop-place : goal.invariant-loop-place
invariant-loop-place l = Passed (λ v. v.name) l.views l.name l.place
