-- The conjuncts of a filter, in a list.
use Rattle.std.proofs.Common.{◌≡◌, List, [], ◌∷◌, refl, ap}
use Rattle.view_lang.specs.Filter.{Filter, parts_of}
use Rattle.sub_groups.specs.FilterParts.{parts_in}

pub parts_listed : (fs : List Filter) → parts_in (parts_of fs) ≡ fs
parts_listed [] = refl
parts_listed (f ∷ fs) = ap (λ gs. f ∷ gs) (parts_listed fs)

pub ruleset conjunct_laws = (parts_listed)
