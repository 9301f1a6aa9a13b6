use Rattle.std.proofs.Common.{List, Bool, false, [], ◌∷◌, ◌+◌, get_or, length, ap, subst, arith}
use Rattle.bitmaps.specs.Blocks.{AreBits}
use Rattle.bitmaps.proofs.Runs.{length-bits_at}
use Rattle.bitmaps.proofs.KernelRuns.{read-run}
use Rattle.bitmaps.proofs.bits.Bits.byte.Goals as goal

pub returns : goal.returns
returns c =
    let b = c.self.inside in
    let P : List Bool → Type 0 = λ bs. AreBits 8 (c.load_byte.result ∷ []) (λ k. get_or bs (c.args.i + k) false) in
    subst P c.self.view_is
    (read-run 8 (c.load_byte.result ∷ []) b.bytes.now b.offset b.len c.args.i
    (omega (arith, length-bits_at b.bytes.now b.offset b.len, ap length c.self.view_is, c.requires)) c.load_byte.ensures)
