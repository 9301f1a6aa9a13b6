use Rattle.std.proofs.Common.{Some, subst, sym}
use Rattle.std.specs.Map.{values_of}
use Rattle.view_lang.specs.Shifts.{NumberedRows}
use Rattle.group_order.specs.Ranked.{Keeps}
use Rattle.upkeep.proofs.RowByRow.{come_fits, come_patched, go_fits, go_patched}
use Rattle.upkeep.proofs.turning.turn_groups.Goals as goal

pub go-requires : goal.go-requires
go-requires g c =
    let row = Some (g.R.RowView.cells c.args.row.now) in (
      c.requires.0,
      c.args.number,
      (c.requires.1.0, go_fits c.args.turn c.args.number row c.requires.0 c.in-Go.is c.requires.1.1.0),
    )

pub returns-in-Come-clause-kept : goal.returns-in-Come-clause-kept
returns-in-Come-clause-kept g c = λ rows fits k.
    let row = Some (g.R.RowView.cells c.args.row.now) in
    let f = come_fits c.args.turn c.args.number row rows c.in-Come.is fits in
    let P : NumberedRows → Type 0 = λ rs. Keeps c.come.new.self (values_of rs) in
    subst P (sym (come_patched c.args.turn c.args.number row rows c.in-Come.is))
    (c.in_ok-come-in-Come.ensures.kept rows c.args.number f.0 f.1 k)

pub returns-in-Go-clause-kept : goal.returns-in-Go-clause-kept
returns-in-Go-clause-kept g c = λ rows fits k.
    let row = Some (g.R.RowView.cells c.args.row.now) in
    let f = go_fits c.args.turn c.args.number row rows c.in-Go.is fits in
    let P : NumberedRows → Type 0 = λ rs. Keeps c.go.new.self (values_of rs) in
    subst P (sym (go_patched c.args.turn c.args.number row rows c.in-Go.is))
    (c.in_ok-go-in-Go.ensures.kept rows c.args.number f.0 f.1 k)
