use Rattle.std.proofs.Common.{◌∙◌, ap}
use Rattle.std.specs.Prelude.{map, not}
use Rattle.bitmaps.specs.Truths.{negated, truths_by}
use Rattle.bitmaps.proofs.TruthLemmas.{negated-bits, ok-same}
use Rattle.bitmaps.proofs.truths.Truths.not.Goals as goal

pub returns : goal.returns
returns c =
    let inner = c.self.inside in
    let no = c.bits-2.ensures ∙ c.in_ok-no.ensures ∙ ap (map not) c.bits.ensures in
    ok-same c.new.result (truths_by c.bits-2.result inner.unknown) (map negated c.args.self)
    (negated-bits c.args.self inner.yes inner.unknown c.bits-2.result c.self.invariant c.self.view_is no) c.new.ensures
