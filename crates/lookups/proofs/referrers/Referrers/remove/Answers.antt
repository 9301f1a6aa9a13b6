use Rattle.lookups.proofs.Numbered.{still-numbered}
use Rattle.lookups.proofs.referrers.Referrers.remove.Goals as goal

pub invariant_of-self : goal.invariant_of-self
invariant_of-self c =
    still-numbered c.self.inside.rows.entries c.take_number.new.rows.entries c.args.key.now c.take_number.ensures.others
    c.take_number.ensures.not_bare c.take_number.ensures.ascending c.self.invariant
