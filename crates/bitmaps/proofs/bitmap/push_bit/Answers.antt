use Rattle.std.proofs.Common.{◌%◌, ◌/◌, ◌<◌, ◌∙◌, arith}
use Rattle.std.proofs.lemmas.Grind.{get_or_default_zero}
use Rattle.bitmaps.proofs.PushLemmas.{byte-fits, last-there}
use Rattle.bitmaps.proofs.bitmap.push_bit.Goals as goal

pub overflow_add-index_mut : goal.overflow_add-index_mut
overflow_add-index_mut c =
    let bytes = c.args.bytes.now.items in
    let n = c.args.len in
    let some : 0 < n % 8 = omega (arith, c.if-place-eq0.false) in
    let there = last-there bytes n c.requires some in
    byte-fits bytes n c.index_mut.result.now c.args.bit c.requires some
    (c.index_mut.ensures.value ∙ get_or_default_zero bytes (n / 8) c.index_mut.result.now there)
