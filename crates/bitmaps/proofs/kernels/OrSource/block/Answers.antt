use Rattle.std.proofs.Common.{arith}
use Rattle.std.specs.Prelude.{◌||◌}
use Rattle.bitmaps.proofs.KernelRuns.{pair-run}
use Rattle.bitmaps.proofs.kernels.OrSource.block.Goals as goal

pub returns : goal.returns
returns c =
    pair-run (λ x y. x || y) 256 c.or_lanes.result c.block.result c.block-2.result
    c.args.self.now.first.now c.args.self.now.second.now c.args.i c.block.ensures c.block-2.ensures c.or_lanes.ensures
    (omega arith) c.requires
