-- Looking a name up among others.
use Rattle.std.specs.Prelude.{ℕ, suc, List, [], ◌∷◌, if◌then◌else◌}
use Rattle.std.specs.Str.{bytes_eq}

-- the index of the first of these that is this name; where none is, how many they are
unfoldable pub place_of : List ℕ → List (List ℕ) → ℕ
place_of name [] = 0
place_of name (n ∷ ns) = if bytes_eq n name then 0 else suc (place_of name ns)
