-- Rows of declared columns.
use Rattle.std.specs.Prelude.{◌≡◌, ◌≤◌, false, List}
use Rattle.values.specs.Datum.{Datum, items_of}
use Rattle.values.specs.Layouts.{HoldsEach, row_weight}
use Rattle.values.specs.Limits.{max_row_weight}
use Rattle.values.specs.Logical.{NamedType, trees_of}
use Rattle.values.specs.Rose.{Rose, kids_of}
use Rattle.view_lang.specs.Causes.{is_heavy}

-- one cell for each column, of the column's type, and neither a cell nor the row too heavy
pub record IsRow (fields : List (Rose NamedType)) (row : List Datum) : Type 0 where
  pub held : HoldsEach (trees_of (kids_of fields)) (items_of row)
  pub light : is_heavy (trees_of (kids_of fields)) row ≡ false

-- A row that isn't too heavy is within the limit on rows.
abbrev pub RowsAreLight : Type 0
RowsAreLight =
    (fields : List (Rose NamedType)) (row : List Datum) → IsRow fields row
    → row_weight (trees_of (kids_of fields)) (items_of row) ≤ max_row_weight
