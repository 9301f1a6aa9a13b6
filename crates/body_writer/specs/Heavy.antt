-- Rows that are too heavy to be accepted: with a cell of more than 2^20, or a row of more than 2^26.
use Rattle.std.specs.Prelude.{◌≡◌, ℕ, ◌<◌, ◌≤◌, ◌⊎◌, All, List, [], ◌∷◌, length, map}
use Rattle.values.specs.Limits.{max_cell_weight, max_row_weight}
use Rattle.values.specs.Datum.{Datum}
use Rattle.values.specs.Layouts.{weight}
use Rattle.values.specs.Rose.{Roses, kids_of, none, more}
use Rattle.values.specs.declared.layout.Layout.{Layout}
use Rattle.arrays.specs.Checked.{CheckedColumn}
use Rattle.schema_meta.specs.Rows.{row_at}
use Rattle.body_writer.specs.Batch.{row_weight}
use Rattle.body_writer.specs.RowRanges.{cells_in}

abbrev pub HasHeavyCell : Roses Layout → List Datum → Type 0
HasHeavyCell none row = ⊥
HasHeavyCell (more t ts) [] = ⊥
HasHeavyCell (more t ts) (c ∷ cs) = (max_cell_weight < weight t c) ⊎ HasHeavyCell ts cs

abbrev pub AreLightCells : Roses Layout → List Datum → Type 0
AreLightCells none row = Unit {0}
AreLightCells (more t ts) [] = Unit {0}
AreLightCells (more t ts) (c ∷ cs) = (weight t c ≤ max_cell_weight) × AreLightCells ts cs

abbrev pub IsHeavy : Roses Layout → List Datum → Type 0
IsHeavy ls row = HasHeavyCell ls row ⊎ (max_row_weight < row_weight ls row)

pub record IsLight (ls : Roses Layout) (row : List Datum) : Type 0 where
  pub cells : AreLightCells ls row
  pub whole : row_weight ls row ≤ max_row_weight

-- a row that isn't too heavy, and its weight
pub record IsLightAs (ls : Roses Layout) (row : List Datum) (weight : ℕ) : Type 0 where
  pub light : IsLight ls row
  pub exact : row_weight ls row ≡ weight

-- how checked columns lie in memory
abbrev pub layouts_in : List CheckedColumn → Roses Layout
layouts_in columns = kids_of (map (λ c. c.layouts) columns)

-- one of the first n rows is too heavy
abbrev pub HasHeavyRow : Roses Layout → List (List Datum) → ℕ → Type 0
HasHeavyRow ls columns n = (k : ℕ) × (k < n) × IsHeavy ls (row_at columns k)

-- the first n rows are not too heavy, and none is heavier than this
abbrev pub AreLightUpTo : Roses Layout → List (List Datum) → ℕ → ℕ → Type 0
AreLightUpTo ls columns n most = (k : ℕ) → k < n → IsLight ls (row_at columns k)
    × (row_weight ls (row_at columns k) ≤ most)

-- no row of these columns is too heavy, or heavier than this
abbrev pub IsRowBound : List CheckedColumn → ℕ → Type 0
IsRowBound columns most = (k : ℕ) → All (λ (c : CheckedColumn). k < length c.cells) columns
    → IsLight (layouts_in columns) (row_at (cells_in columns) k)
    × (row_weight (layouts_in columns) (row_at (cells_in columns) k) ≤ most)
