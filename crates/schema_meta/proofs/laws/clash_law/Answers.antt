use Rattle.schema_meta.proofs.OneType.{clash-law, type-law}
use Rattle.schema_meta.proofs.laws.clash_law.Goals as goal

pub returns-clause-clash : goal.returns-clause-clash
returns-clause-clash c = clash-law

pub returns-clause-types : goal.returns-clause-types
returns-clause-types c = type-law
