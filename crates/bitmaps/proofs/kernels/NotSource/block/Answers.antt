use Rattle.bitmaps.proofs.KernelRuns.{not-run}
use Rattle.bitmaps.proofs.kernels.NotSource.block.Goals as goal

pub returns : goal.returns
returns c =
    not-run 256 c.not_lanes.result c.block.result c.args.self.now.of.now c.args.i c.block.ensures
    c.not_lanes.ensures c.requires
