-- One value, or none, with how often it is there.
use Rattle.std.specs.Prelude.{◌≡◌, ℕ, zero, suc, List, [], ◌∷◌}
use Rattle.std.specs.declared.cmp.Ordering.TheVariants.{Equal}
use Rattle.values.specs.declared.key.Key.{Key}
use Rattle.group_state.specs.Keys.{key_cmp}

-- a value with this count; none where it is 0
abbrev pub counted_once : Key → ℕ → List (Key × ℕ)
counted_once k zero = []
counted_once k (suc n) = (k, suc n) ∷ []

-- There is no other value.
abbrev pub CanTake : Key → List (Key × ℕ) → Type 0
CanTake k [] = Unit {0}
CanTake k (e ∷ []) = key_cmp k e.0 ≡ Equal
CanTake k (e ∷ f ∷ es) = ⊥
