use Rattle.stream_writer.proofs.FramingRead.{first-law, last-law}
use Rattle.stream_writer.proofs.laws.framing_law.Goals as goal

pub returns-clause-first : goal.returns-clause-first
returns-clause-first c = first-law

pub returns-clause-last : goal.returns-clause-last
returns-clause-last c = last-law
