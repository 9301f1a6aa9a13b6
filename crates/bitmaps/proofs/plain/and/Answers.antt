use Rattle.std.proofs.Common.{◌<◌, ◌∷◌, [], ◌∙◌, length, ap, arith}
use Rattle.std.specs.Prelude.{◌&&◌}
use Rattle.std.proofs.lemmas.List.{length-append}
use Rattle.bitmaps.specs.Bits.{pairwise}
use Rattle.bitmaps.proofs.KernelLemmas.{and-next}
use Rattle.bitmaps.proofs.plain.and.Goals as goal

pub loop-i-preserved : goal.loop-i-preserved
loop-i-preserved c =
    let within : c.loop-i.i < length c.args.first.now = omega (arith, c.loop-i-test.true, c.len-i-end.ensures) in
    let bit = (c.at.result && c.at-in-loop-i.result) ∷ [] in
    let more = length-append c.loop-i.made bit in
    record {
      made =
          and-next c.loop-i.made c.push.new.self c.args.first.now c.args.second.now
          (pairwise (λ x y. x && y) c.args.first.now c.args.second.now) c.loop-i.i
          c.at.result c.at-in-loop-i.result within c.requires c.at.ensures c.at-in-loop-i.ensures
          c.in_ok-push.ensures.pushed c.loop-i.invariant.made;
      count = ap length c.in_ok-push.ensures.pushed ∙ omega (arith, more, c.loop-i.invariant.count);
    }
