use Rattle.stream_writer.proofs.CodedMessages.{dictionary-law, values-law}
use Rattle.stream_writer.proofs.laws.dictionary_law.Goals as goal

pub returns-clause-header : goal.returns-clause-header
returns-clause-header c = dictionary-law

pub returns-clause-values : goal.returns-clause-values
returns-clause-values c = values-law
