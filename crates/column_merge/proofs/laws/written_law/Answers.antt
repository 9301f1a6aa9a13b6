use Rattle.column_merge.proofs.RowsReadBack.{written-law}
use Rattle.column_merge.proofs.laws.written_law.Goals as goal

pub returns : goal.returns
returns c = written-law
