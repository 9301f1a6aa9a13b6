use Rattle.group_state.proofs.Present.{present-take}
use Rattle.group_state.proofs.many_values.ManyValues.remove.Goals as goal

pub invariant_of-self : goal.invariant_of-self
invariant_of-self c =
    rw c.take_from.ensures.entries (present-take c.args.key.now c.args.times c.self.inside.counts.entries c.self.invariant)
