use Rattle.std.proofs.Common.{[], ◌∷◌, arith}
use Rattle.std.specs.Prelude.{◌||◌}
use Rattle.bitmaps.proofs.KernelRuns.{pair-run}
use Rattle.bitmaps.proofs.kernels.OrSource.byte.Goals as goal

pub returns : goal.returns
returns c =
    pair-run (λ x y. x || y) 8 (c.or_byte.result ∷ []) (c.byte.result ∷ []) (c.byte-2.result ∷ [])
    c.args.self.now.first.now c.args.self.now.second.now c.args.i c.byte.ensures c.byte-2.ensures c.or_byte.ensures
    (omega arith) c.requires
