-- The columns of rows that are read where they lie.
use Rattle.std.specs.Prelude.{ℕ, zero, suc, List, [], ◌∷◌, ◌++◌, map}
use Rattle.values.specs.CellViews.{shallow}
use Rattle.values.specs.Datum.{Datum}
use Rattle.view_lang.specs.Cells.{cell_at}

-- what a view of each cell of column j gives
abbrev pub lent_column : ℕ → List (List Datum) → List Datum
lent_column j rows = map (λ row. shallow (cell_at row j)) rows

-- the first n columns
abbrev pub lent_columns : ℕ → List (List Datum) → List (List Datum)
lent_columns zero rows = []
lent_columns (suc n) rows = lent_columns n rows ++ (lent_column n rows ∷ [])
