-- Entries of rows that are named by their numbers.
use Rattle.std.specs.Prelude.{Bool, List, Option, Some, ℕ}
use Rattle.std.specs.Ordering.{nat_cmp}
use Rattle.values.specs.Datum.{Datum}
use Rattle.view_lang.specs.declared.view.OrderBy.{OrderBy}
use Rattle.top_rows.specs.EntryOrder.{RowEntry}
use Rattle.top_rows.specs.Ties.{entry_by, is_entry_by, stands_by}

-- the entry of a row that has a number
abbrev pub place_of : List OrderBy → ℕ → List Datum → RowEntry
place_of order n row = entry_by nat_cmp order n row

-- whether an entry is among some
abbrev pub stands : List RowEntry → RowEntry → Bool
stands order_entries p = stands_by nat_cmp order_entries p

-- whether an entry is that of a row
abbrev pub is_entry : List OrderBy → ℕ → List Datum → RowEntry → Bool
is_entry order n row p = is_entry_by nat_cmp order n (Some row) p

-- the same where there may be no row
abbrev pub is_entry_of : List OrderBy → ℕ → Option (List Datum) → RowEntry → Bool
is_entry_of order n row p = is_entry_by nat_cmp order n row p
