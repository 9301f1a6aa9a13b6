use Rattle.stream_writer.proofs.ClosedBatchLemmas.{closed-law}
use Rattle.stream_writer.proofs.laws.closed_law.Goals as goal

pub returns : goal.returns
returns c = closed-law
