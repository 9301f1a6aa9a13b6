use Rattle.lookups.proofs.Changed.{keeps-one}
use Rattle.lookups.proofs.referrers.Referrers.change_row.Goals as goal

pub returns : goal.returns
returns c = λ rows s is kept.
    let changed = c.args.changed.now in
    keeps-one c.args.self.now c.remove_before.new.self c.add_after.new.self changed.number changed.before changed.after
    rows c.in_ok-remove_before.ensures c.in_ok-add_after.ensures s is kept
