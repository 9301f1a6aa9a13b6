use Rattle.std.proofs.Common.{ap, ◌-◌, ◌∙◌, ℕ}
use Rattle.upkeep.specs.Stores.{rows_in, tables_in}
use Rattle.upkeep.proofs.FollowedViews.{current_alike, stale_current}
use Rattle.upkeep.proofs.LastRows.{last_named, last_one}
use Rattle.upkeep.proofs.all_views.follow_last.Goals as goal

pub follow_these-requires-clause-last : goal.follow_these-requires-clause-last
follow_these-requires-clause-last c =
    last_one c.args.stores.now.items c.index.result.now c.args.count _ c.index.ensures c.requires.these.main
    c.if-count-eq1.true (ap (λ (n : ℕ). n - c.args.count) c.appended.ensures)

pub follow_these-requires-in-Ok-clause-last : goal.follow_these-requires-in-Ok-clause-last
follow_these-requires-in-Ok-clause-last c =
    c.deref.ensures.value
    ∙ last_named c.args.stores.now.items c.index-2.result.now c.args.count c.in-Ok.numbers.items c.index-2.ensures
    c.requires.these.main c.in-Ok.ensures

pub returns-in-Err-clause-err : goal.returns-in-Err-clause-err
returns-in-Err-clause-err c = λ tables rows live.
    stale_current tables rows live c.args.views.now c.mark_all_stale.new.states.items
    (c.mark_all_stale.ensures.many
    ∙ current_alike (tables_in c.args.stores.now.items) (rows_in c.args.stores.now.items) c.requires.fits.0
    c.args.views.now c.args.states.now.items c.requires.fits.1.0) c.mark_all_stale.ensures.stale
