use Rattle.std.proofs.Common.{Bool, List, ap, sym, ◌∙◌}
use Rattle.upkeep.proofs.TakenApart.{stale_with}
use Rattle.upkeep.proofs.live_tables.LiveTables.into_parts.Goals as goal
use Rattle.upkeep.specs.LiveParts.{LiveParts}
use Rattle.upkeep.specs.ViewStates.{stale_in}

pub returns-clause-value : goal.returns-clause-value
returns-clause-value c =
    let made : List Bool → LiveParts =
    λ bs. record { stores = c.self.inside.stores.items; views = c.self.inside.views.items; stale = bs } in
    ap made (sym (stale_with c.in_ok-states.states.items) ∙ ap stale_in c.in_ok-states.ensures.value) ∙ c.self.view_is
