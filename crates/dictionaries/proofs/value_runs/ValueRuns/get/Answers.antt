use Rattle.std.specs.Option.{option_copied}
use Rattle.dictionaries.specs.Runs.{ends_in}
use Rattle.dictionaries.proofs.RunLemmas.{held-get}
use Rattle.dictionaries.proofs.value_runs.ValueRuns.get.Goals as goal

pub returns : goal.returns
returns c =
    held-get (option_copied c.value_in.result) c.deref.result.now c.self.inside.held.items c.args.self.now
    (ends_in c.self.inside.ends) c.args.i c.run_of.result c.self.invariant c.deref.ensures.value c.run_of.ensures
    c.self.view_is c.value_in.ensures
