-- What is read from a view: its rows, or where they are stored.
use Rattle.std.specs.Prelude.{◌≡◌, ℕ, ◌+◌, ◌<◌, All, IfSome, List, [], length, map}
use Rattle.values.specs.Datum.{Datum}
use Rattle.body_writer.specs.Picked.{beside, picked_rows}
use Rattle.view_lang.specs.Cells.{rows_of}
use Rattle.view_lang.specs.Config.{Table, View}
use Rattle.view_lang.specs.Outputs.{Output, columns}
use Rattle.row_keys.specs.Locations.{row_if}
use Rattle.row_keys.specs.Slots.{IsLiveAt, Slot, row_of}
use Rattle.upkeep.specs.Stores.{Rows, rows_at}
use Rattle.upkeep.specs.ViewStates.{width_at, width_in}
use Rattle.upkeep.specs.declared.shown.Shown.{Shown}
use Rattle.upkeep.specs.declared.shown.Shown.TheVariants as shown
use Rattle.upkeep.specs.declared.shown.JoinedColumns.{JoinedColumns}
use Rattle.upkeep.specs.declared.shown.StoredColumns.{StoredColumns}

-- The cells are those of live rows of the main table, which has `width` columns, in the columns that the view shows,
-- none of which is coded.
pub record AreStored (v : View) (width : ℕ) (slots : List Slot) (s : StoredColumns) (rows : List (List Datum)) : Type 0
  where
    pub outputs : List Output
    pub plain : v.outputs ≡ columns outputs
    pub coded : v.coded_outputs ≡ []
    pub columns_are : s.columns.items ≡ map (λ o. o.column) outputs
    pub below : All (λ j. j < width) s.columns.items
    pub live : All (IsLiveAt slots) s.visits
    pub rows_are : picked_rows s.columns.items (map (row_of slots) s.visits) ≡ rows

-- the joined rows: those of the main table with rows of a side table beside them, or with none
abbrev pub joined_in : Rows → JoinedColumns → List (List Datum)
joined_in rows j =
    beside (map (row_of (rows_at rows 0)) j.visits) (map (row_if (row_of (rows_at rows j.table))) j.side_numbers.items)

-- The cells are those of live rows of the main table with live rows of a side table beside them, in the columns that
-- the view shows, none of which is coded.
pub record AreJoined (v : View) (tables : List Table) (rows : Rows) (j : JoinedColumns) (shown : List (List Datum)) :
    Type 0 where
  pub outputs : List Output
  pub plain : v.outputs ≡ columns outputs
  pub coded : v.coded_outputs ≡ []
  pub columns_are : j.columns.items ≡ map (λ o. o.column) outputs
  pub side : 0 < j.table
  pub there : j.table < length tables
  pub below : All (λ c. c < width_in tables + width_at tables j.table) j.columns.items
  pub live : All (IsLiveAt (rows_at rows 0)) j.visits
  pub sides_live : All (λ o. IfSome o (IsLiveAt (rows_at rows j.table))) j.side_numbers.items
  pub many : length j.side_numbers.items ≡ length j.visits
  pub rows_are : picked_rows j.columns.items (joined_in rows j) ≡ shown

-- This is what is read from the view of these tables and their rows.
abbrev pub Shows : View → List Table → Rows → Shown → List (List Datum) → Type 0
Shows v tables rows (shown.Rows made) all = rows_of made.items ≡ all
Shows v tables rows (shown.Stored s) all = AreStored v (width_in tables) (rows_at rows 0) s all
Shows v tables rows (shown.Joined j) all = AreJoined v tables rows j all
