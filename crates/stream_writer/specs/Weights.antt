-- The weights of rows that lie in batches of checked columns.
use Rattle.std.specs.Prelude.{
  ◌≡◌,
  ℕ,
  zero,
  suc,
  ◌+◌,
  ◌-◌,
  ◌<◌,
  nat_le,
  if◌then◌else◌,
  All,
  List,
  [],
  ◌∷◌,
  length,
  map,
}
use Rattle.values.specs.Datum.{Datum}
use Rattle.values.specs.Rose.{Roses, kids_of}
use Rattle.values.specs.declared.layout.Layout.{Layout}
use Rattle.arrays.specs.Checked.{CheckedColumn}
use Rattle.schema_meta.specs.Rows.{row_at}
use Rattle.body_writer.specs.Batch.{row_weight}
use Rattle.body_writer.specs.declared.from_columns.batch.Batch.{Batch}
use Rattle.body_writer.specs.RowRanges.{cells_in}
use Rattle.body_writer.specs.Heavy.{IsLight, layouts_in}

abbrev pub weights_of : Roses Layout → List (List Datum) → List ℕ
weights_of ls rows = map (row_weight ls) rows

-- how many of these weights, at most n and from the first on, are together at most `room`
abbrev pub fitting : ℕ → ℕ → List ℕ → ℕ
fitting zero room ws = 0
fitting (suc n) room [] = 0
fitting (suc n) room (w ∷ ws) = if nat_le w room then 1 + fitting n (room - w) ws else 0

-- each column has one cell for each row
abbrev pub HasSizes : Batch → Type 0
HasSizes b = All (λ (c : CheckedColumn). length c.cells ≡ b.rows) b.columns.items

-- no row of the batch is too heavy
abbrev pub IsLightBatch : Batch → Type 0
IsLightBatch b = (k : ℕ) → k < b.rows → IsLight (layouts_in b.columns.items) (row_at (cells_in b.columns.items) k)

-- a row of the batch's columns weighs as much as one of columns of these layouts
abbrev pub WeighsAs : Roses Layout → Batch → Type 0
WeighsAs ls b = (row : List Datum) → row_weight (layouts_in b.columns.items) row ≡ row_weight ls row
