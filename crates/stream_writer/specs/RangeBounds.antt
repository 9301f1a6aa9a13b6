-- Bounds on the weights of some cells of a column.
use Rattle.std.specs.Prelude.{ℕ, ◌+◌, ◌<◌, ◌≤◌, get_or}
use Rattle.values.specs.Datum.{null}
use Rattle.values.specs.Layouts.{Holds, weight}
use Rattle.values.specs.Limits.{max_cell_weight}
use Rattle.values.specs.Rose.{Rose}
use Rattle.values.specs.declared.layout.Layout.{Layout}
use Rattle.arrays.specs.Checked.{CheckedColumn}

-- None of these cells is heavier than this; a value above the limit of a cell says nothing.
pub record IsHeaviest (c : CheckedColumn) (from to most : ℕ) : Type 0 where
  pub each : most ≤ max_cell_weight → (k : ℕ) → from ≤ k → k < to → weight c.layouts (get_or c.cells k null) ≤ most
  pub most_is : most ≤ max_cell_weight + 1

-- None of them that this layout holds is heavier than this in it.
pub record BoundsCells (t : Rose Layout) (c : CheckedColumn) (from to most : ℕ) : Type 0 where
  pub each :
      (k : ℕ) → from ≤ k → k < to → Holds t (get_or c.cells k null) → weight t (get_or c.cells k null) ≤ most
  pub most_is : most ≤ max_cell_weight + 4
