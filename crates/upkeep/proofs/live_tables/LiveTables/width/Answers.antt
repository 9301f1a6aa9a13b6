use Rattle.std.proofs.Common.{ap, length, ◌∙◌}
use Rattle.view_lang.specs.Config.{Table}
use Rattle.upkeep.specs.LiveParts.{LiveParts}
use Rattle.upkeep.specs.Stores.{tables_in}
use Rattle.upkeep.specs.ViewStates.{width_in}
use Rattle.upkeep.proofs.FollowedRows.{main_width}
use Rattle.upkeep.proofs.live_tables.LiveTables.width.Goals as goal

pub returns : goal.returns
returns c =
    c.len.ensures ∙ c.behind-index.inside.columns.ok.0
    ∙ ap (λ (t : Table). length t.columns) (c.behind-index.view_is ∙ c.table.ensures.value)
    ∙ main_width c.self.inside.stores.items c.index.result.now c.index.ensures c.self.invariant.these.main
    ∙ ap (λ (p : LiveParts). width_in (tables_in p.stores)) c.self.view_is
