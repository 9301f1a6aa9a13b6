use Rattle.std.proofs.Common.{[], arith, refl}
use Rattle.group_state.proofs.SampleFits.{none-up}
use Rattle.group_state.proofs.tests.one_group.Goals as goal

pub come-requires : goal.come-requires
come-requires c = ([], (c.in_ok-groups.ensures.kept, omega arith))

pub returns-clause-kept : goal.returns-clause-kept
returns-clause-kept c = c.in_ok-come.ensures.kept [] 0 (none-up [] refl) refl c.in_ok-groups.ensures.kept
