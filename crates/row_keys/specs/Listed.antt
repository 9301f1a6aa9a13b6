-- The values of a function at numbers, in order.
use Rattle.std.specs.Prelude.{ℕ, zero, suc, List, [], ◌∷◌}

-- those at m numbers from n on
abbrev pub listed : {X : Type 0} → (ℕ → X) → ℕ → ℕ → List X
listed f n zero = []
listed f n (suc m) = f n ∷ listed f (suc n) m
