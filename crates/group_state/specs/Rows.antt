-- What a group stores of its rows.
use Rattle.std.specs.Prelude.{◌≡◌, ◌<◌, ℕ, List, length, map, slice_index_or}
use Rattle.values.specs.Datum.{Datum, null}
use Rattle.group_state.specs.declared.tally.Tally.{Tally}
use Rattle.group_state.specs.Cells.{KeepsCells}
use Rattle.group_state.specs.GroupCounts.{GroupCounts}
use Rattle.group_state.specs.declared.accumulated_columns.AccumulatedColumn.{AccumulatedColumn}

-- the cell of a row in a column; null where the row ends before
abbrev pub cell : ℕ → List Datum → Datum
cell j row = slice_index_or row j null

abbrev pub cells : ℕ → List (List Datum) → List Datum
cells j rows = map (cell j) rows

-- each tally is that of its column's cells
pub record KeepsEach (columns : List AccumulatedColumn) (tallies : List Tally) (rows : List (List Datum)) : Type 0 where
  pub count : length tallies ≡ length columns
  pub each : (i : ℕ) (c : AccumulatedColumn) (d : Tally) → i < length columns
      → KeepsCells (slice_index_or columns i c).form (slice_index_or tallies i d)
      (cells (slice_index_or columns i c).column rows)

-- a group is that of these rows
pub record KeepsRows (columns : List AccumulatedColumn) (g : GroupCounts) (rows : List (List Datum)) : Type 0 where
  pub rows_are : g.rows ≡ length rows
  pub tallies_are : KeepsEach columns g.tallies rows
