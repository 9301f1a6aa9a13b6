-- Texts with a separator between each two.
use Rattle.std.specs.Prelude.{ℕ, List, [], ◌∷◌, ◌++◌}

-- one text comes before the first, and the separator before each other
abbrev pub joined_behind : List ℕ → List ℕ → List (List ℕ) → List ℕ
joined_behind led separator [] = []
joined_behind led separator (t ∷ ts) = led ++ (t ++ joined_behind separator separator ts)

abbrev pub joined : List ℕ → List (List ℕ) → List ℕ
joined separator ts = joined_behind [] separator ts
