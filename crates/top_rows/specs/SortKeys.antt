-- What a row is ordered by.
use Rattle.std.specs.Prelude.{List, None, Option, Some, map}
use Rattle.values.specs.Datum.{Datum}
use Rattle.values.specs.Keys.{key_of}
use Rattle.values.specs.declared.key.Key.{Key}
use Rattle.values.specs.declared.key.Key.TheVariants as key
use Rattle.view_lang.specs.Cells.{cell_at}
use Rattle.view_lang.specs.declared.view.Direction.{Direction}
use Rattle.view_lang.specs.declared.view.Direction.TheVariants as direction
use Rattle.view_lang.specs.declared.view.OrderBy.{OrderBy}
use Rattle.top_rows.specs.declared.sort_key.SortKey.{SortKey}
use Rattle.top_rows.specs.declared.sort_key.SortKey.TheVariants as sort_key

-- the sort key of a value in a direction: null is missing in both
abbrev pub sort_key_in : Direction → Key → SortKey
sort_key_in d key.Null = sort_key.Missing
sort_key_in direction.Ascending k = sort_key.Ascending k
sort_key_in direction.Descending k = sort_key.Descending (record { 0 = k })

abbrev pub sort_key_by : Direction → Option Key → SortKey
sort_key_by d None = sort_key.Missing
sort_key_by d (Some k) = sort_key_in d k

-- the sort key of a cell in a direction
abbrev pub sort_key_of : Direction → Datum → SortKey
sort_key_of d cell = sort_key_by d (key_of cell)

-- the sort keys of a row in an order
abbrev pub sort_keys_of : List OrderBy → List Datum → List SortKey
sort_keys_of order row = map (λ o. sort_key_of o.direction (cell_at row o.column)) order
