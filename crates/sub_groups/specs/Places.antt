-- To which groups the rows of sub-groups belong.
use Rattle.std.specs.Prelude.{◌==◌, ℕ, zero, suc, cond, if◌then◌else◌, List, [], ◌∷◌, Option, None, Some}
use Rattle.std.specs.Option.{option_and_then}
use Rattle.values.specs.Datum.{Datum, null}
use Rattle.values.specs.declared.key.Key.{Key}
use Rattle.view_lang.specs.Config.{View}
use Rattle.view_lang.specs.Joined.{Side, joined_row}
use Rattle.group_state.specs.Keys.{data_of}
use Rattle.sub_groups.specs.FilterParts.{passes_others}

-- the cell of a column in a row that has these cells in these columns; null in the others
abbrev pub representative_cell : List ℕ → List Datum → ℕ → Datum
representative_cell [] cells k = null
representative_cell (j ∷ js) [] k = null
representative_cell (j ∷ js) (d ∷ ds) k = if j == k then d else representative_cell js ds k

-- the index of the first such column among others, counted from n
abbrev pub place_in : ℕ → List ℕ → ℕ → Option ℕ
place_in n [] k = None
place_in n (j ∷ js) k = if j == k then Some n else place_in (suc n) js k

abbrev pub representative_from : List ℕ → List Datum → ℕ → ℕ → List Datum
representative_from keys cells i zero = []
representative_from keys cells i (suc m) = representative_cell keys cells i ∷ representative_from keys cells (suc i) m

-- the representative of a sub-group: a row of the main table, which has n columns, with the cells of the sub-group's
-- rows in these columns
abbrev pub representative : ℕ → List ℕ → List Key → List Datum
representative n keys tuple = representative_from keys (data_of tuple) 0 n

-- The representative of a sub-group, joined, if the view doesn't leave it out. What the main table decides alone was
-- tested for each row before.
abbrev pub representative_row : ℕ → View → Side → List ℕ → List Key → Option (List Datum)
representative_row n v side keys tuple =
    option_and_then (λ r. cond (passes_others n v.filter r) (Some r) None)
    (joined_row v.lookup side (representative n keys tuple))
