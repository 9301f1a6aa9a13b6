use Rattle.bitmaps.proofs.KernelRuns.{select-bits}
use Rattle.bitmaps.proofs.lanes.select_lanes.Goals as goal

pub returns : goal.returns
returns c =
    select-bits 256 c.or_lanes.result c.args.mask c.args.yes c.args.no
    c.and_lanes.result c.not_lanes.result c.and_lanes-2.result
    c.and_lanes.ensures c.not_lanes.ensures c.and_lanes-2.ensures c.or_lanes.ensures
