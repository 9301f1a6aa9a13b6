use Rattle.std.proofs.Common.{ap}
use Rattle.dictionaries.specs.Runs.{ends_in}
use Rattle.dictionaries.proofs.RunLemmas.{held-values}
use Rattle.dictionaries.proofs.value_runs.ValueRuns.as_slice.Goals as goal

pub returns-in-Single : goal.returns-in-Single
returns-in-Single c =
    held-values c.as_slice.result.now c.self.inside.held.items c.args.self.now (ends_in c.self.inside.ends)
    c.in-Single.field-0 c.self.invariant (ap ends_in c.in-Single.is) c.self.view_is c.as_slice.ensures.value
