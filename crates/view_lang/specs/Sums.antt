-- Sums that fit into 128 bits.
use Rattle.std.specs.Prelude.{◌≤◌, List, length, All}
use Rattle.values.specs.Datum.{Datum}
use Rattle.values.specs.Limits.{max_main_rows}
use Rattle.view_lang.specs.Aggregates.{IsSummable}
use Rattle.view_lang.specs.Outputs.{GroupOutput, Outputs, columns, groups}

-- so few rows that their numbers can be added
abbrev pub AreSummable : List GroupOutput → List (List Datum) → Type 0
AreSummable outs rows = (length rows ≤ max_main_rows) × All (λ row. All (λ o. IsSummable o.aggregate row) outs) rows

-- the sums of the outputs fit for each group of these rows
abbrev pub CanSum : Outputs → List (List Datum) → Type 0
CanSum (columns outputs) rows = Unit {0}
CanSum (groups by outputs having) rows = AreSummable outputs rows
