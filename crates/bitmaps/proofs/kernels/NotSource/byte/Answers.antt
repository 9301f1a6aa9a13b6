use Rattle.std.proofs.Common.{[], ◌∷◌}
use Rattle.bitmaps.proofs.KernelRuns.{not-run}
use Rattle.bitmaps.proofs.kernels.NotSource.byte.Goals as goal

pub returns : goal.returns
returns c =
    not-run 8 (c.not_byte.result ∷ []) (c.byte.result ∷ []) c.args.self.now.of.now c.args.i c.byte.ensures
    c.not_byte.ensures c.requires
