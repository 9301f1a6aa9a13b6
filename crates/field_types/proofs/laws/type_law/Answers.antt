use Rattle.field_types.proofs.TypeRead.{type-is-read}
use Rattle.field_types.proofs.laws.type_law.Goals as goal

pub returns-clause-read : goal.returns-clause-read
returns-clause-read c = type-is-read
