use Rattle.field_types.proofs.TypeFacts.{read-is-type}
use Rattle.field_types.proofs.laws.stored_law.Goals as goal

pub returns-clause-read : goal.returns-clause-read
returns-clause-read c = read-is-type
