use Rattle.row_keys.proofs.BatchLaw.{keys_are_cells}
use Rattle.row_keys.proofs.laws.batch_law.Goals as goal

pub returns : goal.returns
returns c = record { keys = keys_are_cells }
