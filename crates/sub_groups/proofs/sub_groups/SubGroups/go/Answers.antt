use Rattle.std.proofs.Common.{◌≡◌, ◌∙◌, None, Some, ap, cond, false, sym, refl}
use Rattle.sub_groups.specs.FilterParts.{passes_main}
use Rattle.sub_groups.proofs.Absent.{none_kept}
use Rattle.sub_groups.proofs.sub_groups.SubGroups.go.Goals as goal

pub returns-else-passes_main-clause-kept : goal.returns-else-passes_main-clause-kept
returns-else-passes_main-clause-kept g c = λ rows n up there kept.
    let fails : passes_main c.args.width c.args.view.now.filter (g.R.RowView.cells c.args.row.now) ≡ false =
    rw (← c.view.view_is) (sym c.if-passes_main.ensures) in
    none_kept c.args.self.now.groups n rows None refl
    (there ∙ ap (λ b. cond b (Some (g.R.RowView.cells c.args.row.now)) None) fails) kept
