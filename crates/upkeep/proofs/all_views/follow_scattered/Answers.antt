use Rattle.std.proofs.Common.{◌∙◌}
use Rattle.upkeep.specs.Stores.{rows_in, tables_in}
use Rattle.upkeep.proofs.FollowedViews.{current_alike, stale_current}
use Rattle.upkeep.proofs.all_views.follow_scattered.Goals as goal

pub follow_each_row-requires-clause-alike : goal.follow_each_row-requires-clause-alike
follow_each_row-requires-clause-alike c =
    current_alike (tables_in c.args.stores.now.items) (rows_in c.args.stores.now.items) c.requires.fits.0
    c.args.views.now c.args.states.now.items c.requires.fits.1.0

pub returns-in-Err-clause-err : goal.returns-in-Err-clause-err
returns-in-Err-clause-err c = λ tables rows live.
    stale_current tables rows live c.args.views.now c.mark_all_stale.new.states.items
    (c.mark_all_stale.ensures.many ∙ c.follow_each_row.ensures.many
    ∙ current_alike (tables_in c.args.stores.now.items) (rows_in c.args.stores.now.items) c.requires.fits.0
    c.args.views.now c.args.states.now.items c.requires.fits.1.0) c.mark_all_stale.ensures.stale
