-- The columns that a view can name: those of joined rows, and those of rows of groups.
use Rattle.std.specs.Prelude.{codes, ℕ, ◌+◌, ◌++◌, Err, List, [], length, refl, if◌then◌else◌}
use Rattle.std.specs.Coded.{Coded, code_by, coded×, coded_list}
use Rattle.std.specs.Str.{bytes_eq}
use Rattle.toml.specs.Data.{as_str, Data, string, array, Items}
use Rattle.values.specs.Reading.{◌>>=◌, mapped, must, one}
use Rattle.values.specs.Rose.{Rose, rose_code}
use Rattle.values.specs.Logical.{NamedType, logical_code}
use Rattle.view_config.specs.Columns.{find, ordered}
use Rattle.view_config.specs.Reading.{Reading}
use Rattle.view_config.specs.Tree.{pair}
use Rattle.view_config.specs.contracts.scope.Rows as rows_type
use Rattle.view_config.specs.declared.faults.ConfigFault.TheVariants as fault
use Rattle.view_config.specs.declared.scope.Rows.{Rows}
use Rattle.view_config.specs.declared.scope.Rows.TheVariants as rows

-- Of joined rows: the columns of the main table, and those of the side table that the view looks up; none without a
-- lookup. Of rows of groups: the outputs, and none besides.
pub record Scope : Type 0 where
  pub rows : Rows
  pub main : List (Rose NamedType)
  pub side : List (Rose NamedType)

abbrev pub scope_code : Coded Scope
scope_code =
    code_by (Rows × (List (Rose NamedType) × List (Rose NamedType)))
    (coded× rows_type.the_row.coded (coded× (coded_list (rose_code logical_code))
    (coded_list (rose_code logical_code))))
    (λ s. (s.rows, (s.main, s.side))) (λ p. record { rows = p.0; main = p.1.0; side = p.1.1 }) (λ _. refl)

abbrev pub joined_scope : List (Rose NamedType) → List (Rose NamedType) → Scope
joined_scope main side = record { rows = rows.Joined; main = main; side = side }

abbrev pub group_scope : List (Rose NamedType) → Scope
group_scope outputs = record { rows = rows.Groups; main = outputs; side = [] }

-- the columns of the rows
abbrev pub fields_of : Scope → List (Rose NamedType)
fields_of s = s.main ++ s.side

-- a column by its number
abbrev pub Column : Type 0
Column = ℕ × Rose NamedType

abbrev pub behind : ℕ → Column → Column
behind n c = (n + c.0, c.1)

abbrev pub main_column : Scope → List ℕ → Reading Column
main_column s name = must fault.UnknownName (find 0 name s.main)

abbrev pub side_column : Scope → List ℕ → Reading Column
side_column s name = mapped (behind (length s.main)) (must fault.UnknownName (find 0 name s.side))

-- "name" and ["main", "name"], and ["side", "name"]
abbrev pub joined_by : Scope → List ℕ → List ℕ → Reading Column
joined_by s w name =
    if bytes_eq w (codes "main") then main_column s name else if bytes_eq w (codes "side") then side_column s name
    else Err (one fault.Shape)

-- "name" and ["out", "name"]
abbrev pub group_by : Scope → List ℕ → List ℕ → Reading Column
group_by s w name = if bytes_eq w (codes "out") then main_column s name else Err (one fault.Shape)

abbrev pub reference_by : Rows → Scope → List ℕ → List ℕ → Reading Column
reference_by rows.Joined s w name = joined_by s w name
reference_by rows.Groups s w name = group_by s w name

unfoldable pub reference_in : Scope → Items → Reading Column
reference_in s ds = do
  parts ← must fault.Shape (pair ds)
  w ← must fault.Shape (as_str parts.0)
  name ← must fault.Shape (as_str parts.1)
  reference_by s.rows s w name

unfoldable pub reference : Scope → Data → Reading Column
reference s (string name) = main_column s name
reference s (array ds) = reference_in s ds
reference s d = Err (one fault.Shape)

-- a reference to a column whose values have an order
unfoldable pub ordered_reference : Scope → Data → Reading Column
ordered_reference s d = reference s d >>= ordered
