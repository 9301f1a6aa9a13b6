use Rattle.std.proofs.Common.{[], arith}
use Rattle.group_state.proofs.SampleFits.{sample-fits}
use Rattle.group_state.proofs.tests.sample_groups.Goals as goal

pub apply-requires : goal.apply-requires
apply-requires c = rw c.in_ok-change.ensures ([], (c.in_ok-groups.ensures.kept, (sample-fits, omega arith)))
