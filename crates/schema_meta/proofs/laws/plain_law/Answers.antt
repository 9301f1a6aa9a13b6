use Rattle.schema_meta.proofs.Plain.{plain-slots, plain-arrays}
use Rattle.schema_meta.proofs.laws.plain_law.Goals as goal

pub returns-clause-slots : goal.returns-clause-slots
returns-clause-slots c = plain-slots

pub returns-clause-arrays : goal.returns-clause-arrays
returns-clause-arrays c = plain-arrays
