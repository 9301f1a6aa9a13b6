-- The first rows of a view.
use Rattle.std.specs.Prelude.{◌≡◌, List, map, Some, take, ℕ}
use Rattle.std.specs.List.{AllByRecursion}
use Rattle.std.specs.List.Sorted.{IsStrictlySortedBy}
use Rattle.std.specs.Map.{keys_of, values_of}
use Rattle.std.specs.Ordering.{nat_cmp}
use Rattle.values.specs.Datum.{Datum}
use Rattle.view_lang.specs.Cells.{cell_at}
use Rattle.view_lang.specs.RowOrder.{row_cmp}
use Rattle.view_lang.specs.Shifts.{NumberedRows, row_at}
use Rattle.view_lang.specs.Sorted.{sorted}
use Rattle.view_lang.specs.Aggregates.{IsKeyCell}
use Rattle.view_lang.specs.declared.view.OrderBy.{OrderBy}
use Rattle.top_rows.specs.Keeping.{Keeps}
use Rattle.top_rows.specs.OrderedEntries.{OrderedEntries}

-- What a row is ordered by is neither a list nor a struct.
abbrev pub OrdersKeys : List OrderBy → List Datum → Type 0
OrdersKeys order row = AllByRecursion (λ o. IsKeyCell (cell_at row o.column)) order

-- The rows have ascending numbers, and what they are ordered by has an order.
pub record IsKeptFor (kept : OrderedEntries) (rows : NumberedRows) : Type 0 where
  pub ascending : IsStrictlySortedBy nat_cmp (keys_of rows)
  pub kept_rows : Keeps kept rows
  pub keys : AllByRecursion (λ e. OrdersKeys kept.order e.1) rows

-- Each number has a row, and these are the first n of the sorted rows.
abbrev pub AreFirst : List OrderBy → ℕ → NumberedRows → List ℕ → Type 0
AreFirst order most rows numbers =
    map (λ n. row_at n rows) numbers ≡ map Some (take most (sorted (row_cmp order) (values_of rows)))
