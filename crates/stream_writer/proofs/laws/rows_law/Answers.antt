use Rattle.stream_writer.proofs.CodedMessages.{coded-rows-law}
use Rattle.stream_writer.proofs.RowsRead.{rows-law}
use Rattle.stream_writer.proofs.laws.rows_law.Goals as goal

pub returns-clause-plain : goal.returns-clause-plain
returns-clause-plain c = rows-law

pub returns-clause-coded : goal.returns-clause-coded
returns-clause-coded c = coded-rows-law
