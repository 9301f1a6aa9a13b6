use Rattle.view_lang.proofs.Tuples.{tuples-cover}
use Rattle.view_lang.proofs.view_laws.group_law.Goals as goal

pub returns-clause-cover : goal.returns-clause-cover
returns-clause-cover c = tuples-cover
