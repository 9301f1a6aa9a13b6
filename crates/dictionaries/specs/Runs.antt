-- A list of values by its runs. A run is a value that is repeated, and its end is the number of values up to there.
use Rattle.std.specs.Prelude.{◌≡◌, ℕ, zero, suc, ◌-◌, ◌≤◌, List, [], ◌∷◌, ◌++◌, length, replicate}
use Rattle.values.specs.Datum.{Datum}
use Rattle.dictionaries.specs.declared.run_ends.RunEnds.{RunEnds}
use Rattle.dictionaries.specs.declared.run_ends.RunEnds.TheVariants.{Single, At}

-- the values of runs with these ends, after `from` others
abbrev pub spread : ℕ → List Datum → List ℕ → List Datum
spread from [] ends = []
spread from (d ∷ ds) [] = []
spread from (d ∷ ds) (end ∷ ends) = replicate (end - from) d ++ spread end ds ends

-- the ends of n runs of length 1, after `from` values
abbrev pub counted : ℕ → ℕ → List ℕ
counted from zero = []
counted from (suc n) = suc from ∷ counted (suc from) n

abbrev pub ends_in : RunEnds → List ℕ
ends_in (Single n) = counted 0 n
ends_in (At ends) = ends.items

abbrev pub last_end : ℕ → List ℕ → ℕ
last_end from [] = from
last_end from (end ∷ ends) = last_end end ends

-- none is less than the one before it
abbrev pub IsRising : ℕ → List ℕ → Type 0
IsRising from [] = Unit {0}
IsRising from (end ∷ ends) = (from ≤ end) × IsRising end ends

-- there is an end for each value
abbrev pub AreRuns : List Datum → List ℕ → Type 0
AreRuns ds ends = (length ends ≡ length ds) × IsRising 0 ends
