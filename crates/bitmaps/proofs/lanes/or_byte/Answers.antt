use Rattle.bitmaps.proofs.BlockLemmas.{or-byte}
use Rattle.bitmaps.proofs.lanes.or_byte.Goals as goal

pub returns : goal.returns
returns c = or-byte c.args.a c.args.b
