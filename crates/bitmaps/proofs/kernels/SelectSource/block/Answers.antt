use Rattle.std.proofs.Common.{arith}
use Rattle.bitmaps.proofs.KernelRuns.{select-run}
use Rattle.bitmaps.proofs.kernels.SelectSource.block.Goals as goal

pub returns : goal.returns
returns c =
    select-run 256 c.select_lanes.result c.block.result c.block-2.result c.block-3.result
    c.args.self.now.mask.now c.args.self.now.yes.now c.args.self.now.no.now c.args.i
    c.block.ensures c.block-2.ensures c.block-3.ensures c.select_lanes.ensures
    (omega arith) (omega arith) c.requires
