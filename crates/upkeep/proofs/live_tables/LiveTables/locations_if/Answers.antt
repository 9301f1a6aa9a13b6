use Rattle.std.proofs.Common.{◌<◌, length, subst, sym}
use Rattle.upkeep.specs.LiveParts.{LiveParts}
use Rattle.upkeep.specs.StoreLaws.{is_side}
use Rattle.upkeep.proofs.live_tables.LiveTables.locations_if.Goals as goal

pub locations_if-requires-clause-side : goal.locations_if-requires-clause-side
locations_if-requires-clause-side c =
    is_side c.self.inside.stores.items c.args.table c.index.result.now c.self.invariant.these.sides c.requires.side
    (subst (λ (p : LiveParts). c.args.table < length p.stores) (sym c.self.view_is) c.requires.there) c.index.ensures
