use Rattle.std.proofs.Common.{◌*◌, ◌∙◌, ◌++◌, length, ap, arith}
use Rattle.bitmaps.specs.Bits.{bits_at}
use Rattle.bitmaps.proofs.ByteRuns.{bytes-pushed, bytes-packed}
use Rattle.bitmaps.proofs.Runs.{length-bits_at}
use Rattle.bitmaps.proofs.bitmap.Bitmap.push_bytes.Goals as goal

pub invariant_of-self-2 : goal.invariant_of-self-2
invariant_of-self-2 c =
    let bytes = c.self.inside.bytes.items in
    let all = length-bits_at bytes 0 c.self.inside.len in
    bytes-packed bytes c.args.bytes.now c.extend_from_slice.new.self.items c.self.inside.len _ c.self.invariant
    (omega (arith, all, ap length c.self.view_is, c.requires.whole)) c.in_ok-extend_from_slice.ensures.items (omega arith)
    c.type_inv.bytes

pub returns-clause-pushed : goal.returns-clause-pushed
returns-clause-pushed c =
    let bytes = c.self.inside.bytes.items in
    let all = length-bits_at bytes 0 c.self.inside.len in
    bytes-pushed bytes c.args.bytes.now c.extend_from_slice.new.self.items c.self.inside.len _ c.self.invariant
    (omega (arith, all, ap length c.self.view_is, c.requires.whole)) c.in_ok-extend_from_slice.ensures.items (omega arith)
    ∙ ap (λ bs. bs ++ bits_at c.args.bytes.now 0 (8 * length c.args.bytes.now)) c.self.view_is
