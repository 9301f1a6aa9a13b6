-- Columns by number.
use Rattle.std.specs.Prelude.{ℕ, ◌+◌, ◌==◌, ◌||◌, Bool, false, Option, None, Some, List, [], ◌∷◌, if◌then◌else◌}

-- whether one is among others
abbrev pub is_number_in : List ℕ → ℕ → Bool
is_number_in [] n = false
is_number_in (m ∷ ms) n = n == m || is_number_in ms n

-- whether one is there twice
abbrev pub repeats_number : List ℕ → Bool
repeats_number [] = false
repeats_number (n ∷ ns) = is_number_in ns n || repeats_number ns

-- at which index one is, where the first of these has index i
abbrev pub place_of : ℕ → ℕ → List ℕ → Option ℕ
place_of i n [] = None
place_of i n (m ∷ ms) = if n == m then Some i else place_of (i + 1) n ms
