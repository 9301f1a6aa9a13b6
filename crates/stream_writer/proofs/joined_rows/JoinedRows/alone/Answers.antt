use Rattle.std.proofs.Common.{refl}
use Rattle.stream_writer.proofs.JoinedLemmas.{beside-nothing, have-alone}
use Rattle.stream_writer.proofs.joined_rows.JoinedRows.alone.Goals as goal

pub returns-clause-rows : goal.returns-clause-rows
returns-clause-rows c = beside-nothing c.args.main.batches.now c.args.main.locations.now

pub returns-clause-have : goal.returns-clause-have
returns-clause-have c = λ columns have. have-alone columns _ refl refl have
