use Rattle.std.proofs.lemmas.Simd.{length-chunk, get_or-chunk}
use Rattle.bitmaps.proofs.lanes.load_bytes.Goals as goal

pub returns-clause-long : goal.returns-clause-long
returns-clause-long c = length-chunk c.args.at 32 c.args.bytes.now c.requires

pub returns-clause-each : goal.returns-clause-each
returns-clause-each c k below = get_or-chunk c.args.at 32 c.args.bytes.now k 0 below
