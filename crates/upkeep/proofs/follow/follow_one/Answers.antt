use Rattle.std.proofs.Common.{◌∷◌, [], arith}
use Rattle.upkeep.specs.Inputs.{side_by}
use Rattle.upkeep.specs.Stores.{rows_at, rows_in, tables_in}
use Rattle.upkeep.specs.ViewStates.{turned}
use Rattle.upkeep.proofs.EachRow.{still_current}
use Rattle.upkeep.proofs.FollowedLookups.{on_ok_four}
use Rattle.upkeep.proofs.FollowedRows.{follow_needs, followed, link_needs}
use Rattle.upkeep.proofs.follow.follow_one.Goals as goal

pub turn_stored-requires-clause-fits : goal.turn_stored-requires-clause-fits
turn_stored-requires-clause-fits c =
    let tables = tables_in c.args.stores.now in
    let rows = rows_in c.args.stores.now in
    let needs = follow_needs c.image_law.ensures.fits tables c.args.view.now (side_by tables rows c.args.view.now)
    c.args.state.now (turned c.args.turn (rows_at rows 0) (c.args.number ∷ [])) c.requires.fits.0 c.requires.fits.1.0
    c.requires.fits.1.1.0 c.requires.fits.1.1.1 (c.is_followed.ensures.fresh c.if-not-is_followed.false) in
    let few = needs.1.1.1 in (needs.0, (needs.1.0, (needs.1.1.0, omega (arith, few))))

pub turn_stored-requires-clause-links : goal.turn_stored-requires-clause-links
turn_stored-requires-clause-links c =
    let tables = tables_in c.args.stores.now in
    let rows = rows_in c.args.stores.now in
    let needs = link_needs c.image_law.ensures.fits tables c.args.view.now (side_by tables rows c.args.view.now)
    c.args.state.now (turned c.args.turn (rows_at rows 0) (c.args.number ∷ [])) c.requires.fits.0 c.requires.fits.1.0
    c.requires.fits.1.1.0 c.requires.fits.1.1.1 (c.is_followed.ensures.fresh c.if-not-is_followed.false) in
    let few = needs.1.1.1 in (needs.0, (needs.1.0, (needs.1.1.0, omega (arith, few))))

pub returns-then-not-is_followed-clause-kept : goal.returns-then-not-is_followed-clause-kept
returns-then-not-is_followed-clause-kept c = λ rows fits current fresh.
    let tables = tables_in c.args.stores.now in
    still_current tables c.args.view.now (side_by tables (rows_in c.args.stores.now) c.args.view.now)
    c.args.state.now rows _ (c.is_followed.ensures.idle c.if-not-is_followed.true fresh) current fresh

pub returns-clause-kept : goal.returns-clause-kept
returns-clause-kept c =
    let tables = tables_in c.args.stores.now in
    let rows = rows_in c.args.stores.now in
    let done = c.turn_stored.ensures in
    on_ok_four _ _ _ _ _ c.turn_stored.result
    (λ kept columns links form. followed c.image_law.ensures.fits c.image_law.ensures.patched tables c.args.view.now
    (side_by tables rows c.args.view.now) c.args.state.now c.turn_stored.new.state
    (turned c.args.turn (rows_at rows 0) (c.args.number ∷ [])) (c.is_followed.ensures.fresh c.if-not-is_followed.false)
    columns form kept links)
    done.kept done.columns done.links done.form
