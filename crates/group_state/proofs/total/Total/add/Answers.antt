use Rattle.std.proofs.Common.{◌+◌, refl, rules}
use Rattle.std.proofs.lemmas.Int.{to_z-of_z}
use mir.Syntax.{w128}
use mir.Val.{SFits}
use Rattle.group_state.specs.Rows.{cell}
use Rattle.group_state.proofs.Totals.{total-put}
use Rattle.group_state.proofs.total.Total.add.Goals as goal

pub returns : goal.returns
returns g c = λ cells k.
    let f : SFits w128 c.in-Some.number = search rules in
    total-put c.args.self.now (cell c.args.column (g.R.RowView.cells c.args.row.now)) cells
    (record { filled = c.args.self.now.filled + 1; total = c.raise.new.total })
    c.in-Some.ensures.0 refl
    (rw (c.raise.ensures, to_z-of_z w128 c.in-Some.number f, c.in-Some.ensures.1) refl) k
