use Rattle.std.proofs.Common.{◌∙◌, ap}
use Rattle.std.specs.Prelude.{map}
use Rattle.bitmaps.specs.Truths.{AreBitsOf, either, is_true, paired}
use Rattle.bitmaps.proofs.TruthLemmas.{ors, either-yes, seen-as, kept-as}
use Rattle.bitmaps.proofs.truths.Truths.or.Goals as goal

pub invariant_of-result : goal.invariant_of-result
invariant_of-result c =
    let xs = c.args.self.now in
    let ys = c.args.other.now in
    let are : AreBitsOf (paired either xs ys) c.in_ok-yes.yes c.in_ok-unknown.unknown = record {
      yes =
          c.in_ok-yes.ensures ∙ ap (λ bs. ors bs c.yes-2.result) c.yes.ensures ∙ ap (ors (map is_true xs)) c.yes-2.ensures
          ∙ either-yes xs ys c.requires;
      unknown = c.in_ok-unknown.ensures;
    } in
    kept-as (paired either xs ys) c.in_ok-yes.yes c.in_ok-unknown.unknown are

pub returns : goal.returns
returns c =
    let xs = c.args.self.now in
    let ys = c.args.other.now in
    let are : AreBitsOf (paired either xs ys) c.in_ok-yes.yes c.in_ok-unknown.unknown = record {
      yes =
          c.in_ok-yes.ensures ∙ ap (λ bs. ors bs c.yes-2.result) c.yes.ensures ∙ ap (ors (map is_true xs)) c.yes-2.ensures
          ∙ either-yes xs ys c.requires;
      unknown = c.in_ok-unknown.ensures;
    } in
    seen-as (paired either xs ys) c.in_ok-yes.yes c.in_ok-unknown.unknown are
