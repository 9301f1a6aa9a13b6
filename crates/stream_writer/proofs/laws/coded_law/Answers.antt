use Rattle.stream_writer.proofs.StreamRead.{coded-means, coded-trip, declared-coded-means, declared-coded-trip}
use Rattle.stream_writer.proofs.laws.coded_law.Goals as goal

pub returns-clause-means : goal.returns-clause-means
returns-clause-means c = coded-means

pub returns-clause-declared_means : goal.returns-clause-declared_means
returns-clause-declared_means c = declared-coded-means

pub returns-clause-alone : goal.returns-clause-alone
returns-clause-alone c = coded-trip

pub returns-clause-declared : goal.returns-clause-declared
returns-clause-declared c = declared-coded-trip
