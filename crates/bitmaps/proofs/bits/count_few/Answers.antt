use Rattle.std.proofs.Common.{◌≡◌, ◌+◌, ◌-◌, ◌/◌, get_or, ap, ◌∙◌, arith}
use Rattle.bitmaps.specs.Bits.{bits_at, ones}
use Rattle.bitmaps.proofs.ByteLemmas.{count_byte, count_bit, count_none, eight_at_most}
use Rattle.bitmaps.proofs.bits.count_few.Goals as goal

pub loop-i-preserved-then-len-i-ge8 : goal.loop-i-preserved-then-len-i-ge8
loop-i-preserved-then-len-i-ge8 c =
    let inv = c.loop-i.invariant in
    let bytes = c.args.bytes.now in
    let place = c.args.offset + c.loop-i.i in
    let left = c.args.len - c.loop-i.i in
    let fits = (c.type_inv.bytes (place / 8)).fits in
    let step = count_byte bytes place left c.if-place-eq0.true c.if-len-i-ge8.true fits in
    let next : c.args.offset + (c.loop-i.i + 8) ≡ place + 8 = omega arith in
    let fewer : c.args.len - (c.loop-i.i + 8) ≡ left - 8 = omega arith in
    let rest : ones (bits_at bytes (c.args.offset + (c.loop-i.i + 8)) (c.args.len - (c.loop-i.i + 8)))
    ≡ ones (bits_at bytes (place + 8) (left - 8)) =
    ap (λ k. ones (bits_at bytes k (c.args.len - (c.loop-i.i + 8)))) next
    ∙ ap (λ k. ones (bits_at bytes (place + 8) k)) fewer in
    record {
      count = omega (arith, inv.count, step, rest);
      bound = omega (arith, inv.bound, eight_at_most (get_or bytes (place / 8) 0) fits);
      within = omega (arith, inv.within, c.if-len-i-ge8.true);
    }

pub loop-i-preserved : goal.loop-i-preserved
loop-i-preserved c =
    let inv = c.loop-i.invariant in
    let bytes = c.args.bytes.now in
    let place = c.args.offset + c.loop-i.i in
    let left = c.args.len - c.loop-i.i in
    let step = count_bit bytes place left (omega (arith, c.loop-i-test.true)) in
    let next : c.args.offset + (c.loop-i.i + 1) ≡ place + 1 = omega arith in
    let fewer : c.args.len - (c.loop-i.i + 1) ≡ left - 1 = omega arith in
    let rest : ones (bits_at bytes (c.args.offset + (c.loop-i.i + 1)) (c.args.len - (c.loop-i.i + 1)))
    ≡ ones (bits_at bytes (place + 1) (left - 1)) =
    ap (λ k. ones (bits_at bytes k (c.args.len - (c.loop-i.i + 1)))) next
    ∙ ap (λ k. ones (bits_at bytes (place + 1) k)) fewer in
    record {
      count = omega (arith, inv.count, step, rest, c.bit_number-count.ensures.value);
      bound = omega (arith, inv.bound, c.bit_number-count.ensures.bound);
      within = omega (arith, c.loop-i-test.true);
    }

pub returns : goal.returns
returns c =
    let none : c.args.len - c.loop-i.i ≡ 0 = omega (arith, c.loop-i-test.false) in
    let rest = ap (λ k. ones (bits_at c.args.bytes.now (c.args.offset + c.loop-i.i) k)) none
    ∙ count_none c.args.bytes.now (c.args.offset + c.loop-i.i) in
    omega (arith, c.loop-i.invariant.count, rest)
