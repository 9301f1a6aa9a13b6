use Rattle.group_order.proofs.RankedRows.{none-ranked}
use Rattle.group_order.proofs.ranked.RankedGroups.new.Goals as goal

pub returns-clause-kept : goal.returns-clause-kept
returns-clause-kept c = none-ranked _ c.new.ensures.empty c.in_ok-groups.ensures.kept
