-- The columns of views.
use Rattle.std.specs.Prelude.{codes, ℕ, Option, None, Some, Ok, Err, List, if◌then◌else◌, map}
use Rattle.std.specs.Str.{bytes_eq}
use Rattle.toml.specs.Data.{Data, Items}
use Rattle.values.specs.Logical.{NamedType}
use Rattle.values.specs.Reading.{◌>>=◌, mapped, must, one, refused_if}
use Rattle.values.specs.Rose.{Rose}
use Rattle.view_lang.specs.Outputs.{GroupOutput, Output, Outputs, columns, groups}
use Rattle.view_lang.specs.OutputsSeen.{outputs_of as outputs_seen}
use Rattle.view_lang.specs.ViewColumns.{output_fields}
use Rattle.view_lang.specs.declared.aggregate.Aggregate.{Aggregate}
use Rattle.view_lang.specs.declared.view.Outputs.{Outputs as Stored}
use Rattle.view_config.specs.Aggregates.{aggregate_by, sole_reference}
use Rattle.view_config.specs.Limits.{column_name, distinct, few_fields}
use Rattle.view_config.specs.Numbers.{repeats_number}
use Rattle.view_config.specs.Reading.{Reading}
use Rattle.view_config.specs.Scope.{Scope, fields_of, ordered_reference}
use Rattle.view_config.specs.Tables.{few_columns}
use Rattle.view_config.specs.Tree.{each_item, headed, items_in}
use Rattle.view_config.specs.declared.faults.ConfigFault.TheVariants as fault

abbrev pub distinct_numbers : List ℕ → Reading (Unit {0})
distinct_numbers ns = refused_if fault.DuplicateColumn (repeats_number ns)

-- group: columns that have an order, none of them twice
unfoldable pub grouping_column : Scope → Data → Reading ℕ
grouping_column s d = mapped (λ c. c.0) (ordered_reference s d)

unfoldable pub group_of : Scope → Data → Reading (List ℕ)
group_of s d = do
  ds ← items_in d
  by ← each_item (grouping_column s) ds
  _ ← distinct_numbers by
  Ok by

-- what a view without groups shows, by its word
abbrev pub shown_by : Scope → List ℕ → Items → Reading ℕ
shown_by s w ds =
    if bytes_eq w (codes "col") then mapped (λ c. c.0) (sole_reference s ds) else Err (one fault.Shape)

abbrev pub output_named : List ℕ → ℕ → Output
output_named name column = record { name = name; column = column }

abbrev pub group_output_named : List ℕ → Aggregate → GroupOutput
group_output_named name a = record { name = name; aggregate = a }

-- [out, word, ...]
unfoldable pub output_of : Scope → Data → Reading Output
output_of s d = do
  ds ← items_in d
  out ← must fault.Shape (headed ds)
  word ← must fault.Shape (headed out.1)
  name ← column_name out.0
  mapped (output_named name) (shown_by s word.0 word.1)

unfoldable pub group_output_of : Scope → List ℕ → Data → Reading GroupOutput
group_output_of s by d = do
  ds ← items_in d
  out ← must fault.Shape (headed ds)
  word ← must fault.Shape (headed out.1)
  name ← column_name out.0
  mapped (group_output_named name) (aggregate_by s by word.0 word.1)

-- All groups are shown, unless it is said which.
abbrev pub all_groups : List ℕ → List GroupOutput → Outputs
all_groups by outputs = groups by outputs None

unfoldable pub outputs_in : Scope → Option (List ℕ) → Items → Reading Outputs
outputs_in s None ds = mapped columns (each_item (output_of s) ds)
outputs_in s (Some by) ds = mapped (all_groups by) (each_item (group_output_of s by) ds)

abbrev pub names_of : Outputs → List (List ℕ)
names_of (columns outputs) = map (λ o. o.name) outputs
names_of (groups by outputs having) = map (λ o. o.name) outputs

-- the columns that outputs in memory show
abbrev pub shown_in : Scope → Stored → List (Rose NamedType)
shown_in s os = output_fields (fields_of s) (outputs_seen os)

-- Outputs have at most 1,024 fields at all levels, and no two have one name.
unfoldable pub output_limits : List (Rose NamedType) → Outputs → Reading (Unit {0})
output_limits fields os = do
  _ ← few_fields (output_fields fields os)
  distinct (names_of os)

-- columns, of a view that has these grouping columns
unfoldable pub outputs_of : Scope → Option (List ℕ) → Data → Reading Outputs
outputs_of s group d = do
  ds ← items_in d
  _ ← few_columns ds
  os ← outputs_in s group ds
  _ ← output_limits (fields_of s) os
  Ok os
