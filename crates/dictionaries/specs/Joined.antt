-- The values of several chunks, one after another.
use Rattle.std.specs.Prelude.{List, [], ◌∷◌, ◌++◌}
use Rattle.values.specs.Datum.{Datum}

abbrev pub joined : List (List Datum) → List Datum
joined [] = []
joined (c ∷ cs) = c ++ joined cs
