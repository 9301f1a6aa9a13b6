use Rattle.stream_writer.proofs.BatchRead.{batch-law}
use Rattle.stream_writer.proofs.CodedMessages.{coded-batch-law, none-coded-batch}
use Rattle.stream_writer.proofs.laws.batch_law.Goals as goal

pub returns-clause-plain : goal.returns-clause-plain
returns-clause-plain c = batch-law

pub returns-clause-coded : goal.returns-clause-coded
returns-clause-coded c = coded-batch-law

pub returns-clause-none : goal.returns-clause-none
returns-clause-none c = none-coded-batch
