use Rattle.std.proofs.Common.{[], ◌∷◌}
use Rattle.bitmaps.proofs.KernelRuns.{select-bits}
use Rattle.bitmaps.proofs.lanes.select_byte.Goals as goal

pub returns : goal.returns
returns c =
    select-bits 8 (c.or_byte.result ∷ []) (c.args.mask ∷ []) (c.args.yes ∷ []) (c.args.no ∷ [])
    (c.and_byte.result ∷ []) (c.not_byte.result ∷ []) (c.and_byte-2.result ∷ [])
    c.and_byte.ensures c.not_byte.ensures c.and_byte-2.ensures c.or_byte.ensures
