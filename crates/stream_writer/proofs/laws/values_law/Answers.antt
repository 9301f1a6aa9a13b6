use Rattle.stream_writer.proofs.ValueLemmas.{
  begin-alike,
  differ-in-pairs,
  sample-is-numbered,
  stand-for-their-texts,
  the-texts,
}
use Rattle.stream_writer.proofs.laws.values_law.Goals as goal

pub returns-clause-texts : goal.returns-clause-texts
returns-clause-texts c = the-texts

pub returns-clause-different : goal.returns-clause-different
returns-clause-different c = differ-in-pairs

pub returns-clause-order : goal.returns-clause-order
returns-clause-order c = begin-alike

pub returns-clause-indices : goal.returns-clause-indices
returns-clause-indices c = stand-for-their-texts

pub returns-clause-sample : goal.returns-clause-sample
returns-clause-sample c = sample-is-numbered
