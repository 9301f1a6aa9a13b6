use Rattle.std.proofs.Common.{rules}
use Rattle.dictionaries.proofs.RunLemmas.{single-runs}
use Rattle.dictionaries.proofs.value_runs.ValueRuns.each.Goals as goal

pub invariant_of-result : goal.invariant_of-result
invariant_of-result c = single-runs _ _ (search rules)
