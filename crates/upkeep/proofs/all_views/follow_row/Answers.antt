use Rattle.std.proofs.Common.{ap, subst, ◌∙◌}
use Rattle.upkeep.specs.Stores.{rows_in, tables_in}
use Rattle.upkeep.specs.ViewStates.{AreIdle}
use Rattle.upkeep.proofs.ChangedStores.{still_of}
use Rattle.upkeep.proofs.EachRow.{idle_current}
use Rattle.upkeep.proofs.all_views.follow_row.Goals as goal

pub returns-then-not-is_any_followed-clause-kept : goal.returns-then-not-is_any_followed-clause-kept
returns-then-not-is_any_followed-clause-kept c = λ rows fits each.
    idle_current (tables_in c.args.stores.now.items) (rows_in c.args.stores.now.items) rows _ c.args.views.now
    c.args.states.now.items
    (subst (AreIdle c.args.views.now) c.deref.ensures.value
    (c.is_any_followed.ensures.idle c.if-not-is_any_followed.true))
    each

pub follow_stored-requires-clause-these : goal.follow_stored-requires-clause-these
follow_stored-requires-clause-these c =
    still_of c.args.stores.now.items c.deref-2.result.now c.args.views.now
    (ap tables_in c.deref-2.ensures.value ∙ c.visit-visit.ensures.same_rows.tables) c.requires.these
