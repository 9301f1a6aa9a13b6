use Rattle.std.proofs.Common.{◌∙◌, ap}
use Rattle.std.specs.Prelude.{map, not}
use Rattle.bitmaps.specs.Truths.{truths_by}
use Rattle.bitmaps.proofs.TruthLemmas.{certain-bits, seen-as, kept-as}
use Rattle.bitmaps.proofs.truths.Truths.new.Goals as goal

pub invariant_of-result : goal.invariant_of-result
invariant_of-result c =
    let known = c.args.known.now in
    let certain = c.bits-2.ensures ∙ c.in_ok-certain.ensures ∙ ap (map not) c.bits.ensures in
    kept-as (truths_by known c.args.unknown) c.in_ok-yes.yes c.args.unknown
    (certain-bits known c.args.unknown c.bits-2.result c.in_ok-yes.yes c.requires certain c.in_ok-yes.ensures)

pub returns : goal.returns
returns c =
    let known = c.args.known.now in
    let certain = c.bits-2.ensures ∙ c.in_ok-certain.ensures ∙ ap (map not) c.bits.ensures in
    seen-as (truths_by known c.args.unknown) c.in_ok-yes.yes c.args.unknown
    (certain-bits known c.args.unknown c.bits-2.result c.in_ok-yes.yes c.requires certain c.in_ok-yes.ensures)
