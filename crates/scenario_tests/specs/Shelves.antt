-- What the files of a shelf hold.
use Rattle.std.specs.Prelude.{ℕ, List, Option, None, Some, if◌then◌else◌, codes}
use Rattle.std.specs.Str.{bytes_eq}

-- each file but `out` holds the input
abbrev pub shelved : List ℕ → List ℕ → Option (List ℕ)
shelved path input = if bytes_eq path (codes "out") then None else Some input
