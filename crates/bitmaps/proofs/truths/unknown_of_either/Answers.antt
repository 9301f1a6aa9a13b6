use Rattle.std.proofs.Common.{◌≡◌, ◌∙◌, ap}
use Rattle.std.specs.Prelude.{map, not}
use Rattle.bitmaps.specs.Truths.{either, is_unknown, paired}
use Rattle.bitmaps.proofs.TruthLemmas.{ands, ors, either-unknown, ok-same}
use Rattle.bitmaps.proofs.truths.unknown_of_either.Goals as goal

pub returns : goal.returns
returns c =
    let xs = c.args.first.now in
    let ys = c.args.second.now in
    let some = ors (map is_unknown xs) (map is_unknown ys) in
    let all : c.bits.result ≡ some =
    c.bits.ensures ∙ c.in_ok-unknown.ensures ∙ ap (λ bs. ors bs c.unknown-2.result) c.unknown.ensures
    ∙ ap (ors (map is_unknown xs)) c.unknown-2.ensures in
    ok-same c.and_not.result (ands c.bits.result (map not c.args.yes.now)) (map is_unknown (paired either xs ys))
    (ap (λ bs. ands bs (map not c.args.yes.now)) all ∙ ap (λ bs. ands some (map not bs)) c.requires.yes
    ∙ either-unknown xs ys c.requires.same) c.and_not.ensures
