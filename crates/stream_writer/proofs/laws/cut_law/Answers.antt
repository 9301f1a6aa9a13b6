use Rattle.stream_writer.proofs.CutBack.{cut-law}
use Rattle.stream_writer.proofs.laws.cut_law.Goals as goal

pub returns : goal.returns
returns c = cut-law
