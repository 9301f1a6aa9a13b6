use Rattle.std.proofs.Common.{◌<◌, ◌∷◌, [], ◌∙◌, length, ap, arith}
use Rattle.std.proofs.lemmas.List.{length-append}
use Rattle.bitmaps.specs.Bits.{selected}
use Rattle.bitmaps.proofs.KernelLemmas.{selected-next}
use Rattle.bitmaps.proofs.plain.select.Goals as goal

pub loop-i-preserved : goal.loop-i-preserved
loop-i-preserved c =
    let within : c.loop-i.i < length c.args.mask.now = omega (arith, c.loop-i-test.true, c.len-i-end.ensures) in
    let more = length-append c.loop-i.made (c.pick.result ∷ []) in
    record {
      made =
          selected-next c.loop-i.made c.push.new.self c.args.mask.now c.args.yes.now c.args.no.now
          (selected c.args.mask.now c.args.yes.now c.args.no.now) c.loop-i.i
          c.at.result c.at-in-loop-i.result c.at-in-loop-i-2.result c.pick.result within c.requires.yes c.requires.no
          c.at.ensures c.at-in-loop-i.ensures
          c.at-in-loop-i-2.ensures c.pick.ensures c.in_ok-push.ensures.pushed c.loop-i.invariant.made;
      count = ap length c.in_ok-push.ensures.pushed ∙ omega (arith, more, c.loop-i.invariant.count);
    }
