use Rattle.bitmaps.proofs.BlockLemmas.{and-byte}
use Rattle.bitmaps.proofs.lanes.and_byte.Goals as goal

pub returns : goal.returns
returns c = and-byte c.args.a c.args.b
