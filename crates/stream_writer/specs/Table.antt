-- A table within the limits.
use Rattle.std.specs.Prelude.{◌≤◌, All, List, length}
use Rattle.values.specs.Limits.{max_main_rows, max_row_weight}
use Rattle.values.specs.Rose.{Rose}
use Rattle.values.specs.Datum.{Datum, items_of}
use Rattle.values.specs.Layouts.{AreLayouts, HoldsEach}
use Rattle.values.specs.Logical.{NamedType}
use Rattle.schema_meta.specs.SchemaTree.{AreColumns}
use Rattle.body_writer.specs.Batch.{row_weight}
use Rattle.stream_writer.specs.Stream.{trees}

-- one cell for each column, of the column's type, and not too heavy
pub record IsRow (fields : List (Rose NamedType)) (row : List Datum) : Type 0 where
  pub held : HoldsEach (trees fields) (items_of row)
  pub light : row_weight (trees fields) row ≤ max_row_weight

pub record IsTable (fields : List (Rose NamedType)) (rows : List (List Datum)) : Type 0 where
  pub columns : AreColumns fields
  pub layouts : AreLayouts (trees fields)
  pub few : length rows ≤ max_main_rows
  pub sound : All (IsRow fields) rows
