use Rattle.schema_meta.proofs.FieldFacts.{fields_known}
use Rattle.schema_meta.proofs.LogicalFits.{columns_fit, columns-named}
use Rattle.schema_meta.proofs.laws.fields_law.Goals as goal

pub returns-clause-read : goal.returns-clause-read
returns-clause-read c = fields_known

pub returns-clause-fit : goal.returns-clause-fit
returns-clause-fit c = columns_fit

pub returns-clause-named : goal.returns-clause-named
returns-clause-named c = columns-named
