use Rattle.std.specs.Prelude.{None, Some, refl}
use Rattle.top_rows.proofs.OneRow.{keeps-one}
use Rattle.top_rows.proofs.ordered.Ordered.go.Goals as goal

pub returns-clause-kept : goal.returns-clause-kept
returns-clause-kept g c = λ rows s is k.
    keeps-one c.args.self.now c.remove.new.self c.remove.new.self c.args.number
    (Some (g.R.RowView.cells c.args.row.now)) None rows c.remove.ensures.order refl
    c.in_ok-remove.ensures.order_entries (λ p. refl) s is k
