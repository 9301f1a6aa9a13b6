-- Tables, views of them and the views' states, taken apart.
use Rattle.std.specs.Prelude.{All, map}
use Rattle.upkeep.specs.LiveParts.{AreLive, LiveParts}
use Rattle.upkeep.specs.ViewParts.{IsState, state_with}
use Rattle.upkeep.specs.declared.parts.LiveTablesParts.{LiveTablesParts}

-- what contracts see of the tables that have these parts
abbrev pub live_with : LiveTablesParts → LiveParts
live_with p =
    record { stores = p.stores.items; views = p.views.items; stale = map (λ s. s.stale) p.states.items }

-- Each view is stale, or the state that has its parts is computed from the live rows of the stores.
pub record AreLiveParts (p : LiveTablesParts) : Type 0 where
  pub states : All IsState p.states.items
  pub live : AreLive p.stores.items p.views.items (map state_with p.states.items)
