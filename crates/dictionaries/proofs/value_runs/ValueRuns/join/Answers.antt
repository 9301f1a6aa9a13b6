use Rattle.std.proofs.Common.{rules}
use Rattle.dictionaries.proofs.RunLemmas.{joined-runs, joined-values}
use Rattle.dictionaries.proofs.value_runs.ValueRuns.join.Goals as goal

pub invariant_of-result : goal.invariant_of-result
invariant_of-result c =
    joined-runs _ _ _ _ _ _ c.self.invariant c.behind.invariant (search rules) c.in_ok-ends.ensures

pub returns : goal.returns
returns c =
    joined-values _ _ _ _ _ _ _ _ c.self.invariant (search rules) c.in_ok-ends.ensures c.self.view_is c.behind.view_is
