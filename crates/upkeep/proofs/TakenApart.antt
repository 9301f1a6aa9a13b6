-- What tables that are made of parts store.
use Rattle.std.proofs.Common.{◌≡◌, List, [], ◌∷◌, ap, map, refl}
use Rattle.upkeep.specs.ViewParts.{state_with}
use Rattle.upkeep.specs.ViewStates.{stale_in}
use Rattle.upkeep.specs.declared.parts.ViewParts.{ViewParts}

pub stale_with : (ps : List ViewParts) → stale_in (map state_with ps) ≡ map (λ s. s.stale) ps
stale_with [] = refl
stale_with (p ∷ ps) = ap (λ bs. p.stale ∷ bs) (stale_with ps)
