use Rattle.std.proofs.Common.{Bool, List, ap, ◌∙◌}
use Rattle.upkeep.proofs.TakenApart.{stale_with}
use Rattle.upkeep.proofs.live_tables.LiveTables.from_parts.Goals as goal
use Rattle.upkeep.specs.LiveParts.{LiveParts}
use Rattle.upkeep.specs.ViewStates.{stale_in}

pub returns : goal.returns
returns c =
    let made : List Bool → LiveParts =
    λ bs. record { stores = c.args.parts.stores.items; views = c.args.parts.views.items; stale = bs } in
    ap made (ap stale_in c.in_ok-states.ensures ∙ stale_with c.args.parts.states.items)
