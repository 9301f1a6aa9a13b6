use Rattle.std.proofs.Common.{ℕ, ap, subst, sym, ◌∙◌}
use Rattle.std.specs.Map.{values_of}
use Rattle.view_lang.specs.Shifts.{NumberedRows, with_at}
use Rattle.group_state.specs.Groups.{Keeps}
use Rattle.sub_groups.specs.SubGroups.{sub_row}
use Rattle.upkeep.specs.ViewStates.{sub_row_of}
use Rattle.upkeep.proofs.RowByRow.{come_fits, come_patched, go_fits, go_patched}
use Rattle.upkeep.proofs.turning.turn_sub_row.Goals as goal

pub go-requires : goal.go-requires
go-requires c =
    let row = sub_row_of c.args.view.now c.args.row.now in
    let f = go_fits c.args.turn c.args.number row c.requires.0 c.in-Go.is c.requires.1.1.0 in (
      c.requires.0,
      c.args.number,
      (
        c.requires.1.0,
        (f.0, f.1 ∙ ap (λ n. sub_row n c.args.view.now c.args.row.now) (sym c.len-in-Go.ensures)),
      ),
    )

pub returns-in-Come-clause-kept : goal.returns-in-Come-clause-kept
returns-in-Come-clause-kept c = λ rows fits k.
    let row = sub_row_of c.args.view.now c.args.row.now in
    let f = come_fits c.args.turn c.args.number row rows c.in-Come.is fits in
    let P : NumberedRows → Type 0 = λ rs. Keeps c.come.new.self.groups (values_of rs) in
    subst P (sym (come_patched c.args.turn c.args.number row rows c.in-Come.is))
    (subst (λ (n : ℕ).
    Keeps c.come.new.self.groups (values_of (with_at c.args.number (sub_row n c.args.view.now c.args.row.now) rows)))
    c.len.ensures
    (c.in_ok-come-in-Come.ensures.kept rows c.args.number f.0 f.1 k))

pub returns-in-Go-clause-kept : goal.returns-in-Go-clause-kept
returns-in-Go-clause-kept c = λ rows fits k.
    let row = sub_row_of c.args.view.now c.args.row.now in
    let f = go_fits c.args.turn c.args.number row rows c.in-Go.is fits in
    let P : NumberedRows → Type 0 = λ rs. Keeps c.go.new.self.groups (values_of rs) in
    subst P (sym (go_patched c.args.turn c.args.number row rows c.in-Go.is))
    (c.in_ok-go-in-Go.ensures.kept rows c.args.number f.0
    (f.1 ∙ ap (λ n. sub_row n c.args.view.now c.args.row.now) (sym c.len-in-Go.ensures)) k)
