use Rattle.lookups.proofs.Numbered.{not-bare-with, still-numbered}
use Rattle.lookups.proofs.referrers.Referrers.add.Goals as goal

pub invariant_of-self-2 : goal.invariant_of-self-2
invariant_of-self-2 c =
    let new = c.put_number.new.rows.entries in
    still-numbered c.self.inside.rows.entries new c.args.key c.put_number.ensures.others
    (not-bare-with new c.args.key c.args.number _ (c.in_ok-put_number.ensures.here c.args.number))
    c.in_ok-put_number.ensures.ascending c.self.invariant
