use Rattle.bitmaps.proofs.BlockLemmas.{not-byte}
use Rattle.bitmaps.proofs.lanes.not_byte.Goals as goal

pub returns : goal.returns
returns c = not-byte c.args.a c.ranges.a.fits
