use Rattle.lookups.proofs.Numbered.{none-numbered}
use Rattle.lookups.proofs.referrers.Referrers.new.Goals as goal

pub invariant_of-result : goal.invariant_of-result
invariant_of-result c = none-numbered c.new.result.entries c.new.ensures.empty
