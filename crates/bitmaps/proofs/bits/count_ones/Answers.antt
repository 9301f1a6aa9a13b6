use Rattle.std.proofs.Common.{◌≡◌, ◌+◌, ◌-◌, ap, ◌∙◌, arith}
use Rattle.bitmaps.specs.Bits.{bits_at, ones}
use Rattle.bitmaps.proofs.Runs.{ones-le, length-bits_at}
use Rattle.bitmaps.proofs.CountLemmas.{count_block}
use Rattle.bitmaps.proofs.bits.count_ones.Goals as goal

pub loop-i-preserved : goal.loop-i-preserved
loop-i-preserved c =
    let inv = c.loop-i.invariant in
    let bytes = c.args.bytes.now in
    let place = c.args.offset + c.loop-i.i in
    let left = c.args.len - c.loop-i.i in
    let step = count_block bytes c.load.result place left c.load.ensures c.loop-i-test.true in
    let next : c.args.offset + (c.loop-i.i + 256) ≡ place + 256 = omega arith in
    let fewer : c.args.len - (c.loop-i.i + 256) ≡ left - 256 = omega arith in
    let rest : ones (bits_at bytes (c.args.offset + (c.loop-i.i + 256)) (c.args.len - (c.loop-i.i + 256)))
    ≡ ones (bits_at bytes (place + 256) (left - 256)) =
    ap (λ k. ones (bits_at bytes k (c.args.len - (c.loop-i.i + 256)))) next
    ∙ ap (λ k. ones (bits_at bytes (place + 256) k)) fewer in
    record {
      count = omega (arith, inv.count, step, rest, c.count_lanes-count.ensures.value);
      bound = omega (arith, inv.bound, c.count_lanes-count.ensures.bound);
      within = omega (arith, inv.within, c.loop-i-test.true);
    }

pub overflow_add-result : goal.overflow_add-result
overflow_add-result c =
    let bits = bits_at c.args.bytes.now c.args.offset c.args.len in
    let most = ones-le bits in
    let long = length-bits_at c.args.bytes.now c.args.offset c.args.len in
    record { fits = omega (arith, c.loop-i.invariant.count, c.count_few.ensures, most, long, c.requires.small) }
