use Rattle.std.proofs.Common.{refl, rules}
use Rattle.std.proofs.lemmas.Int.{to_z-of_z}
use mir.Syntax.{w128}
use mir.Val.{SFits}
use Rattle.group_state.specs.Rows.{cell}
use Rattle.group_state.proofs.Totals.{total-taken}
use Rattle.group_state.proofs.total.Total.remove.Goals as goal

pub returns : goal.returns
returns g c = λ cells k.
    let f : SFits w128 c.in-Some.number = search rules in
    total-taken c.args.self.now (cell c.args.column (g.R.RowView.cells c.args.row.now)) cells
    (record { filled = c.saturating_sub-self.result; total = c.lower.new.total })
    c.in-Some.ensures.0 c.saturating_sub-self.ensures
    (rw (c.lower.ensures, to_z-of_z w128 c.in-Some.number f, c.in-Some.ensures.1) refl) k
