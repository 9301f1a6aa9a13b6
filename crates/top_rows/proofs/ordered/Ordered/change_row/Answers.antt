use Rattle.top_rows.proofs.OneRow.{keeps-one}
use Rattle.top_rows.proofs.ordered.Ordered.change_row.Goals as goal

pub returns-clause-kept : goal.returns-clause-kept
returns-clause-kept c = λ rows s is k.
    let changed = c.args.changed.now in
    keeps-one c.args.self.now c.remove_before.new.self c.insert_after.new.self changed.number changed.before
    changed.after rows c.remove_before.ensures.order c.insert_after.ensures.order
    c.in_ok-remove_before.ensures.order_entries c.in_ok-insert_after.ensures.order_entries s is k
