use Rattle.std.proofs.Common.{◌∷◌, [], arith}
use Rattle.bitmaps.proofs.GatherLemmas.{begun-bytes}
use Rattle.bitmaps.proofs.gather.push_whole_bytes.Goals as goal

pub loop-made-smaller : goal.loop-made-smaller
loop-made-smaller g c =
    let bits = g.S.Source.bits c.args.source.now in
    let next = begun-bytes bits c.loop-made.made c.push_bytes.new.self (c.byte-byte.result ∷ []) c.len-in-loop-made.result 8
    c.loop-made.invariant.begun c.len-in-loop-made.ensures c.byte-byte.ensures
    (omega (arith, c.loop-made-test.true, c.len.ensures, c.len-in-loop-made.ensures, c.len-len.ensures))
    c.in_ok-push_bytes.ensures.pushed in
    omega (arith, next.1, c.loop-made-test.true, c.len.ensures)

pub loop-made-preserved : goal.loop-made-preserved
loop-made-preserved g c =
    let bits = g.S.Source.bits c.args.source.now in
    let next = begun-bytes bits c.loop-made.made c.push_bytes.new.self (c.byte-byte.result ∷ []) c.len-in-loop-made.result 8
    c.loop-made.invariant.begun c.len-in-loop-made.ensures c.byte-byte.ensures
    (omega (arith, c.loop-made-test.true, c.len.ensures, c.len-in-loop-made.ensures, c.len-len.ensures))
    c.in_ok-push_bytes.ensures.pushed in
    record { whole = omega (arith, next.1, c.loop-made.invariant.whole); begun = next.0 }
