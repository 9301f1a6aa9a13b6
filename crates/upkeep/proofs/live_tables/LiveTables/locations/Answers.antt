use Rattle.std.proofs.Common.{ℕ, All, ap, subst, ◌∙◌}
use Rattle.std.proofs.lemmas.Result.{IfOk-weaker}
use Rattle.body_writer.specs.Locations.{IsRowAt}
use Rattle.upkeep.specs.LiveParts.{LiveParts}
use Rattle.upkeep.specs.Stores.{tables_in}
use Rattle.upkeep.specs.ViewStates.{width_in}
use Rattle.upkeep.proofs.FollowedRows.{main_width}
use Rattle.upkeep.proofs.live_tables.LiveTables.locations.Goals as goal

pub returns-clause-placed : goal.returns-clause-placed
returns-clause-placed c =
    let width = main_width c.self.inside.stores.items c.index.result.now c.index.ensures c.self.invariant.these.main
    ∙ ap (λ (p : LiveParts). width_in (tables_in p.stores)) c.self.view_is in
    IfOk-weaker c.locations.result _ _
    (λ found placed. subst (λ (w : ℕ). All (IsRowAt w found.batches.items) found.locations.items) width placed)
    c.locations.ensures.placed
