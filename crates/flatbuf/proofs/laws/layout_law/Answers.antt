use Rattle.flatbuf.proofs.ReadsBack.{layout-law}
use Rattle.flatbuf.proofs.laws.layout_law.Goals as goal

pub returns : goal.returns
returns c = layout-law
