use Rattle.std.proofs.Common.{subst, sym, ◌∙◌}
use Rattle.view_lang.specs.Shifts.{Fits}
use Rattle.upkeep.specs.ViewStates.{IsMaterialized, KeepsLinks}
use Rattle.upkeep.proofs.FollowedLookups.{on_ok}
use Rattle.upkeep.proofs.RowByRow.{link_of_row, made_of_row, same_change}
use Rattle.upkeep.proofs.follow.turn_stored.Goals as goal

pub turn_link-requires : goal.turn_link-requires
turn_link-requires c =
    let same = link_of_row c.args.stores.now c.args.view.now c.args.number c.args.row.now c.requires.row c.args.turn
    c.requires.live c.args.state.now.links in (
      c.requires.links.0,
      (
        c.requires.links.1.0,
        (subst (Fits c.requires.links.0) (sym same) c.requires.links.1.1.0, c.requires.links.1.1.1),
      ),
    )

pub turn_main_row-requires-clause-fits : goal.turn_main_row-requires-clause-fits
turn_main_row-requires-clause-fits c =
    let same = made_of_row c.args.stores.now c.args.view.now c.args.number c.again.result
    (c.again.ensures ∙ c.requires.row) c.args.turn c.requires.live in (
      c.requires.fits.0,
      (
        c.requires.fits.1.0,
        (subst (Fits c.requires.fits.0) (sym same) c.requires.fits.1.1.0, c.requires.fits.1.1.1),
      ),
    )

pub returns-clause-kept : goal.returns-clause-kept
returns-clause-kept c =
    let v = c.args.view.now in
    let same = made_of_row c.args.stores.now v c.args.number c.again.result (c.again.ensures ∙ c.requires.row)
    c.args.turn c.requires.live in
    on_ok _ _ c.turn_main_row.result
    (λ turned_one. same_change (IsMaterialized v c.args.state.now.kept) (IsMaterialized v c.turn_main_row.new.kept) _
    _ same turned_one)
    c.turn_main_row.ensures.kept

pub returns-clause-links : goal.returns-clause-links
returns-clause-links c =
    let same = link_of_row c.args.stores.now c.args.view.now c.args.number c.args.row.now c.requires.row c.args.turn
    c.requires.live c.args.state.now.links in
    on_ok _ _ c.turn_main_row.result
    (λ done. same_change (KeepsLinks c.args.state.now.links) (KeepsLinks c.turn_link.new.links) _ _ same
    c.in_ok-turn_link.ensures.kept)
    c.turn_main_row.ensures.kept
