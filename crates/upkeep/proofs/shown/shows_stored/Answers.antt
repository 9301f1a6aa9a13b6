use Rattle.std.proofs.Common.{◌<◌, All, List, ap, arith, subst}
use Rattle.std.proofs.lemmas.List.{take_all}
use Rattle.std.proofs.lemmas.List.Elements.{All-more}
use Rattle.view_lang.specs.Outputs.{Output}
use Rattle.upkeep.proofs.shown.shows_stored.Goals as goal

pub loop-output-preserved : goal.loop-output-preserved
loop-output-preserved c =
    let P : Output → Type 0 = λ o. o.column < c.args.width in
    let o : Output = c.output-item.result in
    let same = ap (λ (x : Output). x.column) c.output.view_is in
    let under = c.if-output-width.false in
    let here : P o = omega (arith, same, under) in
    All-more P c.args.outputs.now c.loop-output.output-index o c.loop-output-test.true c.loop-output.invariant
    (subst P c.output-item.is here)

pub returns-clause-below : goal.returns-clause-below
returns-clause-below c = λ yes.
    let A : List Output → Type 0 = λ os. All (λ o. o.column < c.args.width) os in
    subst A (take_all c.loop-output.output-index c.args.outputs.now c.loop-output-test.false) c.loop-output.invariant
