use Rattle.std.proofs.Common.{Some, subst, sym}
use Rattle.view_lang.specs.Shifts.{NumberedRows}
use Rattle.view_lang.specs.Views.{shown_row}
use Rattle.top_rows.specs.Keeping.{Keeps}
use Rattle.upkeep.proofs.RowByRow.{come_fits, come_patched, go_fits, go_patched}
use Rattle.upkeep.proofs.turning.turn_order.Goals as goal

pub returns-in-Come-clause-kept : goal.returns-in-Come-clause-kept
returns-in-Come-clause-kept g c = λ rows fits k.
    let row = Some (shown_row c.args.outputs.now (g.R.RowView.cells c.args.row.now)) in
    let f = come_fits c.args.turn c.args.number row rows c.in-Come.is fits in
    let P : NumberedRows → Type 0 = λ rs. Keeps c.come.new.self rs in
    subst P (sym (come_patched c.args.turn c.args.number row rows c.in-Come.is))
    (c.in_ok-come-in-Come.ensures.kept rows f.0 f.1 k)

pub returns-in-Go-clause-kept : goal.returns-in-Go-clause-kept
returns-in-Go-clause-kept g c = λ rows fits k.
    let row = Some (shown_row c.args.outputs.now (g.R.RowView.cells c.args.row.now)) in
    let f = go_fits c.args.turn c.args.number row rows c.in-Go.is fits in
    let P : NumberedRows → Type 0 = λ rs. Keeps c.go.new.self rs in
    subst P (sym (go_patched c.args.turn c.args.number row rows c.in-Go.is))
    (c.in_ok-go-in-Go.ensures.kept rows f.0 f.1 k)
