-- Which table a stream means.
use Rattle.std.specs.Prelude.{◌≡◌, List, Some, Ok, map}
use Rattle.std.specs.Option.{option_map}
use Rattle.values.specs.Datum.{Datum}
use Rattle.values.specs.Rose.{Rose}
use Rattle.values.specs.Logical.{NamedType}
use Rattle.schema_meta.specs.Logical.{logical_field}
use Rattle.schema_meta.specs.Story.{Story}

-- Reading the whole stream gives this table: no fault, and these columns and rows.
pub record Means (s : Story) (fields : List (Rose NamedType)) (rows : List (List Datum)) : Type 0 where
  pub whole : s.end ≡ Ok tt
  pub columns : option_map (λ fs. map logical_field fs) s.schema ≡ Some fields
  pub cells : s.rows ≡ rows
