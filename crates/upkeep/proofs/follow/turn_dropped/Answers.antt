use Rattle.std.proofs.Common.{[], ◌∷◌, ap, refl, subst, ◌∙◌}
use Rattle.std.specs.Option.{option_copied, option_map}
use Rattle.values.specs.Datum.{Datum}
use Rattle.lookups.specs.Keeping.{Keeps}
use Rattle.upkeep.specs.ViewStates.{IsDroppedLink, KeepsLinks}
use Rattle.upkeep.specs.declared.view_state.Links.{Links}
use Rattle.upkeep.proofs.RowByRow.{still_kept}
use Rattle.upkeep.proofs.follow.turn_dropped.Goals as goal

pub returns-in_default-clause-kept : goal.returns-in_default-clause-kept
returns-in_default-clause-kept c = λ row dropped rows fits k.
    let here = subst (λ (l : Links). IsDroppedLink l (option_copied c.args.looked_up) row) c.in-Rows.is dropped in
    still_kept (Keeps c.in-Rows.referrers) _ c.args.turn c.args.number row rows refl
    (here ∙ ap (λ o. option_map (λ (d : Datum). d ∷ []) (option_copied o)) c.in_default.is) fits
    (subst (λ (l : Links). KeepsLinks l rows) c.in-Rows.is k)

pub returns-in-SubGroups-clause-kept : goal.returns-in-SubGroups-clause-kept
returns-in-SubGroups-clause-kept c = λ row dropped rows fits k.
    still_kept (KeepsLinks c.args.links.now) _ c.args.turn c.args.number row rows refl
    (subst (λ (l : Links). IsDroppedLink l (option_copied c.args.looked_up) row) c.in-SubGroups.is dropped) fits k
