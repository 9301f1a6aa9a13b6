use Rattle.std.proofs.Common.{◌≡◌, ◌∙◌, ap}
use Rattle.std.specs.Prelude.{map, not}
use Rattle.bitmaps.specs.Truths.{both, is_true, is_unknown, paired}
use Rattle.bitmaps.proofs.TruthLemmas.{ands, ors, both-unknown, ok-same}
use Rattle.bitmaps.proofs.truths.unknown_of_both.Goals as goal

pub returns : goal.returns
returns c =
    let xs = c.args.first.now in
    let ys = c.args.second.now in
    let xp = ors (map is_true xs) (map is_unknown xs) in
    let yp = ors (map is_true ys) (map is_unknown ys) in
    let left : c.bits.result ≡ xp = c.bits.ensures ∙ c.in_ok-first.ensures in
    let right : c.bits-2.result ≡ yp = c.bits-2.ensures ∙ c.in_ok-second.ensures in
    let all : c.bits-3.result ≡ ands xp yp =
    c.bits-3.ensures ∙ c.in_ok-possible.ensures ∙ ap (λ bs. ands bs c.bits-2.result) left ∙ ap (ands xp) right in
    ok-same c.and_not.result (ands c.bits-3.result (map not c.args.yes.now)) (map is_unknown (paired both xs ys))
    (ap (λ bs. ands bs (map not c.args.yes.now)) all ∙ ap (λ bs. ands (ands xp yp) (map not bs)) c.requires.yes
    ∙ both-unknown xs ys c.requires.same) c.and_not.ensures
