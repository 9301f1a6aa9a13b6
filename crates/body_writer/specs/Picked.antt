-- Some columns of rows, in an order of their own, and rows with others beside them.
use Rattle.std.specs.Prelude.{ℕ, ◌<◌, All, List, [], ◌∷◌, ◌++◌, get_or, map}
use Rattle.values.specs.Datum.{Datum, null}
use Rattle.body_writer.specs.RowRanges.{IsRange}
use Rattle.body_writer.specs.declared.from_columns.batch.RowRange.{RowRange}

-- the cells of a row in these columns
abbrev pub picked : List ℕ → List Datum → List Datum
picked columns row = map (λ j. get_or row j null) columns

abbrev pub picked_rows : List ℕ → List (List Datum) → List (List Datum)
picked_rows columns rows = map (picked columns) rows

-- each of the first rows, followed by the cells of the second one beside it
abbrev pub beside : List (List Datum) → List (List Datum) → List (List Datum)
beside [] ss = []
beside (m ∷ ms) [] = []
beside (m ∷ ms) (s ∷ ss) = (m ++ s) ∷ beside ms ss

-- The rows lie within batches of n columns, of which these are some.
pub record HaveColumns (n : ℕ) (columns : List ℕ) (rs : List RowRange) : Type 0 where
  pub ranges : All (IsRange n) rs
  pub below : All (λ j. j < n) columns
