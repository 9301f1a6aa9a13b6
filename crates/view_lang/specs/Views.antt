-- The rows that a view shows.
use Rattle.std.specs.Prelude.{ℕ, suc, cond, List, map, filter, take, Option, None, Some}
use Rattle.std.specs.Option.{option_and_then}
use Rattle.values.specs.Datum.{Datum}
use Rattle.view_lang.specs.Cells.{cell_at}
use Rattle.view_lang.specs.Config.{Table, View}
use Rattle.view_lang.specs.Groups.{group_rows}
use Rattle.view_lang.specs.Joined.{Side, joined, joined_row, side_of}
use Rattle.view_lang.specs.Outputs.{Output, Outputs, columns, groups}
use Rattle.view_lang.specs.RowOrder.{row_cmp}
use Rattle.view_lang.specs.Sorted.{sorted}
use Rattle.view_lang.specs.Truth.{passes}
use Rattle.view_lang.specs.World.{World, contents_at, table_at}
use Rattle.view_lang.specs.declared.view.Lookup.{Lookup}

-- The rows from which the view is computed: those of the main table, joined and filtered.
unfoldable pub view_input : View → Side → List (List Datum) → List (List Datum)
view_input v side rows = filter (passes v.filter) (joined v.lookup side rows)

-- what one row of the main table gives: the joined row, if it passes the filter
abbrev pub passing_row : View → Side → List Datum → Option (List Datum)
passing_row v side row = option_and_then (λ r. cond (passes v.filter r) (Some r) None) (joined_row v.lookup side row)

abbrev pub output_cell : List Datum → Output → Datum
output_cell row o = cell_at row o.column

abbrev pub shown_row : List Output → List Datum → List Datum
shown_row outputs row = map (output_cell row) outputs

-- Plain rows are in the order of arrival, group rows in that of their tuples; of these only those of which `having` is
-- true.
unfoldable pub output_rows : Outputs → List (List Datum) → List (List Datum)
output_rows (columns outputs) rows = map (shown_row outputs) rows
output_rows (groups by outputs having) rows = filter (passes having) (group_rows by outputs rows)

abbrev pub first_of : {X : Type 0} → Option ℕ → List X → List X
first_of None xs = xs
first_of (Some n) xs = take n xs

-- what is shown of the rows from which the view is computed: the first of the outputs, in a stable sort
unfoldable pub shown_rows : View → List (List Datum) → List (List Datum)
shown_rows v rows = first_of v.first (sorted (row_cmp v.order) (output_rows v.outputs rows))

-- the rows that a view shows, of these rows of the main table and this side table
unfoldable pub view_rows : View → Side → List (List Datum) → List (List Datum)
view_rows v side rows = shown_rows v (view_input v side rows)

-- the side table that a view looks up
abbrev pub side_in : List Table → World → Option Lookup → Side
side_in tables w None = λ _. None
side_in tables w (Some l) = side_of (table_at tables (suc l.side)) (contents_at w (suc l.side))

-- what a view shows of a world
abbrev pub view_of : List Table → View → World → List (List Datum)
view_of tables v w = view_rows v (side_in tables w v.lookup) (contents_at w 0).live
