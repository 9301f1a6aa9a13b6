use Rattle.std.proofs.Common.{◌≡◌, List, ap, subst, sym, ◌∙◌}
use Rattle.view_lang.specs.Config.{View}
use Rattle.view_lang.specs.Outputs.{GroupOutput, Outputs, groups}
use Rattle.view_lang.specs.OutputsSeen.{outputs_of}
use Rattle.group_order.specs.Ranked.{Ranking}
use Rattle.group_state.specs.Aggregates.{AreReadBy}
use Rattle.sub_groups.specs.Moved.{KeepRead}
use Rattle.upkeep.proofs.view_state.materialized_of_none.Goals as goal

pub returns-in_ok-new-in-Groups-clause-read : goal.returns-in_ok-new-in-Groups-clause-read
returns-in_ok-new-in-Groups-clause-read c =
    let seen : c.args.view.now.outputs ≡ groups c.in-Groups.by.items c.in-Groups.columns.items c.in-Groups.having =
    sym (ap (λ (v : View). v.outputs) c.view.view_is) ∙ ap outputs_of c.in-Groups.is in
    let shown : c.in_ok-ranking-in-Groups.ranking.outputs ≡ c.in-Groups.columns.items =
    ap (λ (r : Ranking). r.outputs) c.in_ok-ranking-in-Groups.ensures ∙ c.deref-in-Groups.ensures.value in
    subst (λ (o : Outputs). KeepRead o c.in_ok-new-in-Groups.field-0.groups.columns) (sym seen)
    (subst (λ (os : List GroupOutput). AreReadBy os c.in_ok-new-in-Groups.field-0.groups.columns) shown
    c.in_ok-new-in-Groups.ensures.read)
