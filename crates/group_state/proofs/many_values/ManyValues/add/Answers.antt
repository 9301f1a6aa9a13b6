use Rattle.std.proofs.Common.{rules}
use Rattle.group_state.proofs.Present.{present_when}
use Rattle.group_state.proofs.many_values.ManyValues.add.Goals as goal

pub invariant_of-self-2 : goal.invariant_of-self-2
invariant_of-self-2 c =
    present_when c.args.key c.args.times c.self.inside.counts.entries _ c.requires.some (search rules) c.self.invariant
