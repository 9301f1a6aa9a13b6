use Rattle.stream_writer.proofs.StreamRead.{round-trip, declared-trip, means-its-table, declared-means-its-table}
use Rattle.stream_writer.proofs.laws.canon_law.Goals as goal

pub returns-clause-means : goal.returns-clause-means
returns-clause-means c = means-its-table

pub returns-clause-declared_means : goal.returns-clause-declared_means
returns-clause-declared_means c = declared-means-its-table

pub returns-clause-alone : goal.returns-clause-alone
returns-clause-alone c = round-trip

pub returns-clause-declared : goal.returns-clause-declared
returns-clause-declared c = declared-trip
