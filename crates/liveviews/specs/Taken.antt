-- Rows of a batch that are accepted, and rows that are refused.
use Rattle.std.specs.Prelude.{ℕ, ◌<◌, ◌≤◌, All, List, length}
use Rattle.values.specs.Limits.{max_main_rows}
use Rattle.values.specs.Datum.{Datum, items_of}
use Rattle.values.specs.Layouts.{HoldsEach}
use Rattle.values.specs.Rose.{Roses}
use Rattle.values.specs.declared.layout.Layout.{Layout}
use Rattle.values.specs.declared.causes.Cause.{Cause}
use Rattle.values.specs.declared.causes.Cause.TheVariants as cause
use Rattle.schema_meta.specs.Rows.{row_at}
use Rattle.body_writer.specs.Heavy.{HasHeavyRow, IsLight}

-- Rows that are accepted have a cell a column, of the column's layout, and are not too heavy; and they are not too
-- many.
pub record IsAcceptedRow (ls : Roses Layout) (row : List Datum) : Type 0 where
  pub held : HoldsEach ls (items_of row)
  pub light : IsLight ls row

pub record AreAccepted (ls : Roses Layout) (rows : List (List Datum)) : Type 0 where
  pub few : length rows ≤ max_main_rows
  pub each : All (IsAcceptedRow ls) rows

-- each of the first n rows can be accepted
abbrev pub AreFit : Roses Layout → List (List Datum) → ℕ → Type 0
AreFit ls columns n = (k : ℕ) → k < n → IsAcceptedRow ls (row_at columns k)

-- why the first n rows of a batch were not accepted
abbrev pub RefusesRows : Roses Layout → List (List Datum) → ℕ → Cause → Type 0
RefusesRows ls columns n cause.Memory = Unit {0}
RefusesRows ls columns n cause.CellTooHeavy = HasHeavyRow ls columns n
RefusesRows ls columns n _ = ⊥
