use Rattle.bitmaps.proofs.BlockLemmas.{cut-byte}
use Rattle.bitmaps.proofs.lanes.load_byte.Goals as goal

pub returns-else-place-eq0 : goal.returns-else-place-eq0
returns-else-place-eq0 c =
    cut-byte c.args.bytes.now c.args.from c.join.result c.type_inv.bytes c.join.ensures
