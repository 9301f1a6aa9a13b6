-- Group rows: one for each distinct tuple of grouping columns, ascending.
use Rattle.std.specs.Prelude.{ℕ, Bool, List, [], ◌∷◌, map, filter}
use Rattle.std.specs.List.{dedup}
use Rattle.std.specs.Ordering.{is_eq}
use Rattle.values.specs.Datum.{Datum}
use Rattle.view_lang.specs.Aggregates.{aggregate_of}
use Rattle.view_lang.specs.Cells.{cells_at}
use Rattle.view_lang.specs.Sorted.{sorted}
use Rattle.view_lang.specs.Outputs.{GroupOutput}
use Rattle.view_lang.specs.RowOrder.{tuple_cmp}

abbrev pub same_tuple : List Datum → List Datum → Bool
same_tuple s t = is_eq (tuple_cmp s t)

-- Without grouping columns there is one tuple, also of no rows.
unfoldable pub tuples_of : List ℕ → List (List Datum) → List (List Datum)
tuples_of [] rows = [] ∷ []
tuples_of (k ∷ ks) rows = dedup same_tuple (sorted tuple_cmp (map (cells_at (k ∷ ks)) rows))

unfoldable pub rows_with : List ℕ → List Datum → List (List Datum) → List (List Datum)
rows_with by tuple rows = filter (λ row. same_tuple tuple (cells_at by row)) rows

-- the row of a group with this tuple and these rows
unfoldable pub group_row : List GroupOutput → List Datum → List (List Datum) → List Datum
group_row outs tuple rows = map (λ o. aggregate_of o.aggregate tuple rows) outs

-- a row for each group of these rows
unfoldable pub group_rows : List ℕ → List GroupOutput → List (List Datum) → List (List Datum)
group_rows by outs rows = map (λ tuple. group_row outs tuple (rows_with by tuple rows)) (tuples_of by rows)
