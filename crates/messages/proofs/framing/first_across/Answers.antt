use Rattle.std.proofs.Common.{◌≡◌, Ok, Some, subst}
use Rattle.std.specs.Prelude.{IfErr, IfOk, IfSome}
use Rattle.values.specs.Reading.{Fails}
use Rattle.messages.specs.State.{known_of, whole_seen}
use Rattle.messages.proofs.AcrossLemmas.{across_is}
use Rattle.messages.proofs.framing.first_across.Goals as goal

pub returns-in-Some-clause-found : goal.returns-in-Some-clause-found
returns-in-Some-clause-found c =
    subst (λ m. IfOk c.message_across.result (λ o. IfSome o (λ f. m ≡ Ok (Some (whole_seen f)))))
    (across_is (known_of c.args.state.now) c.args.bytes.now c.args.more.now c.in-Some.size c.in-Some.ensures.there
    c.in-Some.ensures.some c.in-Some.ensures.size) c.message_across.ensures.found

pub returns-in-Some-clause-fault : goal.returns-in-Some-clause-fault
returns-in-Some-clause-fault c =
    subst (λ m. IfErr c.message_across.result (λ e. Fails e m))
    (across_is (known_of c.args.state.now) c.args.bytes.now c.args.more.now c.in-Some.size c.in-Some.ensures.there
    c.in-Some.ensures.some c.in-Some.ensures.size) c.message_across.ensures.fault
