use Rattle.bitmaps.proofs.BlockLemmas.{length-joined_lanes, lane-joined_lanes}
use Rattle.bitmaps.proofs.lanes.join_lanes.Goals as goal

pub returns-clause-long : goal.returns-clause-long
returns-clause-long c = length-joined_lanes c.args.place c.args.low c.args.high c.fits-low.0 c.fits-high.0

pub returns-clause-each : goal.returns-clause-each
returns-clause-each c = lane-joined_lanes c.args.place c.args.low c.args.high c.fits-low.0 c.fits-high.0
