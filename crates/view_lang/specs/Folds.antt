-- What is counted, summed or compared of the cells of some rows.
use Rattle.std.specs.Prelude.{ℕ, ℤ, pos, ◌+ℤ◌, not, cond, List, [], ◌∷◌, map, length, filter}
use Rattle.std.specs.Ordering.{is_gt}
use Rattle.values.specs.Datum.{Datum, null, whole, is_null}
use Rattle.view_lang.specs.Cells.{cell_at}
use Rattle.view_lang.specs.Contents.{is_among}
use Rattle.view_lang.specs.RowOrder.{cell_cmp}
use Rattle.view_lang.specs.declared.view.Direction.{Direction}

-- the cells of a column that aren't null
abbrev pub values_at : ℕ → List (List Datum) → List Datum
values_at k rows = filter (λ d. not (is_null d)) (map (λ row. cell_at row k) rows)

abbrev pub number_in : Datum → ℤ
number_in (whole n) = n
number_in _ = pos 0

unfoldable pub total : List Datum → ℤ
total [] = pos 0
total (d ∷ ds) = number_in d +ℤ total ds

-- null where there is nothing to add
abbrev pub sum_of : List Datum → Datum
sum_of [] = null
sum_of (d ∷ ds) = whole (total (d ∷ ds))

-- which of two cells comes first in an order, in which nulls are last
abbrev pub earlier : Direction → Datum → Datum → Datum
earlier o a b = cond (is_gt (cell_cmp o a b)) b a

-- The least is the first ascending, the greatest the first descending. Of no values the first is null.
unfoldable pub first_in : Direction → List Datum → Datum
first_in o [] = null
first_in o (d ∷ ds) = earlier o d (first_in o ds)

abbrev pub count_of : {X : Type 0} → List X → Datum
count_of xs = whole (pos (length xs))

-- each value once
unfoldable pub distinct : List Datum → List Datum
distinct [] = []
distinct (d ∷ ds) = cond (is_among d ds) (distinct ds) (d ∷ distinct ds)
