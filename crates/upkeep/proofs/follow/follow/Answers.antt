use Rattle.upkeep.specs.Inputs.{side_by}
use Rattle.upkeep.specs.Stores.{rows_at, rows_in, tables_in}
use Rattle.upkeep.specs.ViewStates.{turned}
use Rattle.upkeep.proofs.EachRow.{still_current}
use Rattle.upkeep.proofs.FollowedLookups.{on_ok_four}
use Rattle.upkeep.proofs.FollowedRows.{follow_needs, followed, link_needs}
use Rattle.upkeep.proofs.follow.follow.Goals as goal

pub follow_numbers-followed-requires-clause-fits : goal.follow_numbers-followed-requires-clause-fits
follow_numbers-followed-requires-clause-fits c =
    follow_needs c.image_law.ensures.fits (tables_in c.args.stores.now.items) c.args.view.now
    (side_by (tables_in c.args.stores.now.items) (rows_in c.args.stores.now.items) c.args.view.now) c.args.state.now
    (turned c.args.turn (rows_at (rows_in c.args.stores.now.items) 0) c.args.numbers.now)
    c.requires.fits.0 c.requires.fits.1.0 c.requires.fits.1.1.0 c.requires.fits.1.1.1 c.if-state.false

pub follow_numbers-followed-requires-clause-links : goal.follow_numbers-followed-requires-clause-links
follow_numbers-followed-requires-clause-links c =
    link_needs c.image_law.ensures.fits (tables_in c.args.stores.now.items) c.args.view.now
    (side_by (tables_in c.args.stores.now.items) (rows_in c.args.stores.now.items) c.args.view.now) c.args.state.now
    (turned c.args.turn (rows_at (rows_in c.args.stores.now.items) 0) c.args.numbers.now)
    c.requires.fits.0 c.requires.fits.1.0 c.requires.fits.1.1.0 c.requires.fits.1.1.1 c.if-state.false

pub returns-then-materializes_nothing-clause-kept : goal.returns-then-materializes_nothing-clause-kept
returns-then-materializes_nothing-clause-kept c = λ rows fits current.
    still_current (tables_in c.args.stores.now.items) c.args.view.now
    (side_by (tables_in c.args.stores.now.items) (rows_in c.args.stores.now.items) c.args.view.now) c.args.state.now
    rows _ (c.materializes_nothing.ensures c.if-materializes_nothing.true) current

pub returns-else-is_err-clause-kept : goal.returns-else-is_err-clause-kept
returns-else-is_err-clause-kept c =
    let done = c.follow_numbers-followed.ensures in
    on_ok_four _ _ _ _ _ c.follow_numbers-followed.result
    (λ kept columns links form. followed c.image_law.ensures.fits c.image_law.ensures.patched
    (tables_in c.args.stores.now.items) c.args.view.now
    (side_by (tables_in c.args.stores.now.items) (rows_in c.args.stores.now.items) c.args.view.now) c.args.state.now
    c.follow_numbers-followed.new.state
    (turned c.args.turn (rows_at (rows_in c.args.stores.now.items) 0) c.args.numbers.now) c.if-state.false columns form
    kept links)
    done.kept done.columns done.links done.form
