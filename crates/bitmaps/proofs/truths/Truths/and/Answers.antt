use Rattle.std.proofs.Common.{◌∙◌, ap}
use Rattle.std.specs.Prelude.{map}
use Rattle.bitmaps.specs.Truths.{AreBitsOf, both, is_true, paired}
use Rattle.bitmaps.proofs.TruthLemmas.{ands, both-yes, seen-as, kept-as}
use Rattle.bitmaps.proofs.truths.Truths.and.Goals as goal

pub invariant_of-result : goal.invariant_of-result
invariant_of-result c =
    let xs = c.args.self.now in
    let ys = c.args.other.now in
    let are : AreBitsOf (paired both xs ys) c.in_ok-yes.yes c.in_ok-unknown.unknown = record {
      yes =
          c.in_ok-yes.ensures ∙ ap (λ bs. ands bs c.yes-2.result) c.yes.ensures ∙ ap (ands (map is_true xs)) c.yes-2.ensures
          ∙ both-yes xs ys c.requires;
      unknown = c.in_ok-unknown.ensures;
    } in
    kept-as (paired both xs ys) c.in_ok-yes.yes c.in_ok-unknown.unknown are

pub returns : goal.returns
returns c =
    let xs = c.args.self.now in
    let ys = c.args.other.now in
    let are : AreBitsOf (paired both xs ys) c.in_ok-yes.yes c.in_ok-unknown.unknown = record {
      yes =
          c.in_ok-yes.ensures ∙ ap (λ bs. ands bs c.yes-2.result) c.yes.ensures ∙ ap (ands (map is_true xs)) c.yes-2.ensures
          ∙ both-yes xs ys c.requires;
      unknown = c.in_ok-unknown.ensures;
    } in
    seen-as (paired both xs ys) c.in_ok-yes.yes c.in_ok-unknown.unknown are
