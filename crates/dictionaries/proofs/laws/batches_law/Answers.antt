use Rattle.dictionaries.proofs.Batches.{step_after, taking_is_one_more, values_after}
use Rattle.dictionaries.proofs.laws.batches_law.Goals as goal

pub returns-clause-one_more : goal.returns-clause-one_more
returns-clause-one_more c = taking_is_one_more

pub returns-clause-values : goal.returns-clause-values
returns-clause-values c = values_after

pub returns-clause-step : goal.returns-clause-step
returns-clause-step c = step_after
