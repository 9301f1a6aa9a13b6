use Rattle.std.specs.Prelude.{None, Some, refl}
use Rattle.top_rows.proofs.OneRow.{keeps-one}
use Rattle.top_rows.proofs.ordered.Ordered.come.Goals as goal

pub returns-clause-kept : goal.returns-clause-kept
returns-clause-kept g c = λ rows s is k.
    keeps-one c.args.self.now c.args.self.now c.insert.new.self c.args.number None
    (Some (g.R.RowView.cells c.args.row.now)) rows refl c.insert.ensures.order (λ p. refl)
    c.in_ok-insert.ensures.order_entries s is k
