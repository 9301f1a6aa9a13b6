use Rattle.std.proofs.Common.{[], ◌∷◌, arith}
use Rattle.bitmaps.proofs.KernelRuns.{select-run}
use Rattle.bitmaps.proofs.kernels.SelectSource.byte.Goals as goal

pub returns : goal.returns
returns c =
    select-run 8 (c.select_byte.result ∷ []) (c.byte.result ∷ []) (c.byte-2.result ∷ []) (c.byte-3.result ∷ [])
    c.args.self.now.mask.now c.args.self.now.yes.now c.args.self.now.no.now c.args.i
    c.byte.ensures c.byte-2.ensures c.byte-3.ensures c.select_byte.ensures
    (omega arith) (omega arith) c.requires
