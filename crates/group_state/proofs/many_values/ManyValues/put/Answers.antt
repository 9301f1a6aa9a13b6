use Rattle.std.proofs.Common.{◌<◌}
use Rattle.std.proofs.lemmas.Map.Views.{All-values-insert_entry}
use Rattle.group_state.specs.Keys.{key_cmp}
use Rattle.group_state.proofs.many_values.ManyValues.put.Goals as goal

pub invariant_of-self-2 : goal.invariant_of-self-2
invariant_of-self-2 c =
    rw c.in_ok-insert.ensures.entries
    (All-values-insert_entry key_cmp c.args.key c.args.count (λ n. 0 < n) c.self.inside.counts.entries c.self.invariant
    c.requires)
