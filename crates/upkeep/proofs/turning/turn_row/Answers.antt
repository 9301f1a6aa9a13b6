use Rattle.std.proofs.Common.{ap, sym, ◌∙◌}
use Rattle.view_lang.specs.Config.{View}
use Rattle.view_lang.specs.Outputs.{columns}
use Rattle.view_lang.specs.OutputsSeen.{outputs_of}
use Rattle.upkeep.specs.ViewStates.{ShowsEach}
use Rattle.upkeep.proofs.RowByRow.{order_turned}
use Rattle.upkeep.proofs.turning.turn_row.Goals as goal

pub returns-in-Columns-Order-clause-kept : goal.returns-in-Columns-Order-clause-kept
returns-in-Columns-Order-clause-kept g c = λ rows fits k.
    order_turned (ShowsEach c.args.view.now) c.args.view.now.outputs c.deref.result.now c.args.view.now.order c.args.kept.now
    c.in-Columns-Order.order c.turn_order.new.order c.args.turn c.args.number (g.R.RowView.cells c.args.row.now)
    (sym (ap (λ (v : View). v.outputs) c.view.view_is) ∙ ap outputs_of c.in-Columns-Order.is-0
    ∙ ap columns (sym c.deref.ensures.value))
    c.in-Columns-Order.is-1 c.in_ok-turn_order-in-Columns-Order.ensures.order
    c.in_ok-turn_order-in-Columns-Order.ensures.kept rows fits k
