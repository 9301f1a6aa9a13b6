use Rattle.schema_meta.proofs.Placed.{place-law, dictionary-law, same-dictionary, values-law}
use Rattle.schema_meta.proofs.laws.place_law.Goals as goal

pub returns-clause-placed : goal.returns-clause-placed
returns-clause-placed c = place-law

pub returns-clause-dictionary : goal.returns-clause-dictionary
returns-clause-dictionary c = dictionary-law

pub returns-clause-same : goal.returns-clause-same
returns-clause-same c = same-dictionary

pub returns-clause-values : goal.returns-clause-values
returns-clause-values c = values-law
