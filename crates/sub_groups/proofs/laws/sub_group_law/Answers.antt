use Rattle.sub_groups.proofs.RepresentativeRows.{sub_groups_placed}
use Rattle.sub_groups.proofs.laws.sub_group_law.Goals as goal

pub returns-clause-placed : goal.returns-clause-placed
returns-clause-placed c = sub_groups_placed
