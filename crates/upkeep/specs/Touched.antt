-- The rows of the main table that a change touches, and how often rows may be opened.
use Rattle.std.specs.Prelude.{ℕ, zero, suc, ◌≤◌, ◌+◌, ◌*◌, Bool, false, ◌&&◌, List, Option, None, Some, true, count_by, get_or, if◌then◌else◌, length, nat_eq, not}
use Rattle.std.specs.List.{list_any}
use Rattle.values.specs.Datum.{Datum}
use Rattle.view_lang.specs.Cells.{cell_at}
use Rattle.view_lang.specs.Config.{Table, View}
use Rattle.view_lang.specs.Contents.{is_among}
use Rattle.view_lang.specs.Joined.{Side}
use Rattle.view_lang.specs.Outputs.{Outputs, columns, groups}
use Rattle.view_lang.specs.Views.{view_rows}
use Rattle.view_lang.specs.World.{table_at}
use Rattle.view_lang.specs.declared.view.Lookup.{Lookup}
use Rattle.row_keys.specs.Slots.{Slot, live}
use Rattle.sub_groups.specs.Moved.{is_moved}
use Rattle.upkeep.specs.Inputs.{side_by}
use Rattle.upkeep.specs.LiveParts.{LiveParts, view_at}
use Rattle.row_keys.specs.Store.{Store}
use Rattle.upkeep.specs.Stores.{Rows, main_slots, rows_at, rows_in, tables_in, visits_in}
use Rattle.row_keys.specs.HiddenChanges.{named_keys}
use Rattle.upkeep.specs.ViewStates.{width_in}
use Rattle.row_keys.specs.declared.table_change.TableChange.{TableChange}
use Rattle.row_keys.specs.declared.table_change.TableChange.TheVariants.{Appended, Put, Retracted}

-- whether a row of the main table looks up one of these keys in a table
abbrev pub refers_by : Option Lookup → ℕ → List Datum → List Datum → Bool
refers_by None table keys row = false
refers_by (Some l) table keys row = nat_eq (suc l.side) table && is_among (cell_at row l.on) keys

-- whether it is opened for a view where rows of these keys change: it refers to one, and the view doesn't move
-- sub-groups. The main table has n columns.
abbrev pub opened_for : ℕ → View → ℕ → List Datum → List Datum → Bool
opened_for n v table keys row = not (is_moved n v) && refers_by v.lookup table keys row

-- whether it is opened for one of the views
abbrev pub refers : ℕ → List View → ℕ → List Datum → List Datum → Bool
refers n views table keys row = list_any (λ v. opened_for n v table keys row) views

-- how many rows of the main table are opened for a view where this change of table n is made, or reverted
abbrev pub count_opened : List Store → View → ℕ → TableChange → ℕ
count_opened stores v n change =
    count_by (opened_for (width_in (tables_in stores)) v n
    (named_keys (table_at (tables_in stores) n) change (rows_at (rows_in stores) n))) (live (main_slots stores))

-- how many refer to a row that it names, for one of these views that doesn't move sub-groups
abbrev pub count_referring : List Store → List View → ℕ → TableChange → ℕ
count_referring stores views n change =
    count_by (refers (width_in (tables_in stores)) views n
    (named_keys (table_at (tables_in stores) n) change (rows_at (rows_in stores) n))) (live (main_slots stores))

-- How many rows of the main table a change touches: those that it names, or those that refer to a row that it names,
-- for a view that doesn't move sub-groups.
abbrev pub touched : List Table → List View → Rows → ℕ → TableChange → ℕ
touched tables views rows zero (Appended n) = n
touched tables views rows zero (Retracted ns) = length ns.items
touched tables views rows zero (Put n replaced) = 0
touched tables views rows (suc side) change =
    count_by (refers (width_in tables) views (suc side)
    (named_keys (table_at tables (suc side)) change (rows_at rows (suc side)))) (live (rows_at rows 0))

-- Each view may open this many rows.
abbrev pub OpensOnce : LiveParts → ℕ → LiveParts → Type 0
OpensOnce old rows new = visits_in new.stores ≤ visits_in old.stores + length old.views * rows

-- how many rows are opened for a view that shows this number of rows: as many for a plain view, none for groups
abbrev pub opened_by : Outputs → ℕ → ℕ
opened_by (columns outputs) shown = shown
opened_by (groups by outputs having) shown = 0

abbrev pub opened_of : View → Side → List Slot → ℕ
opened_of v side slots = opened_by v.outputs (length (view_rows v side (live slots)))

-- A view that is stale is built anew from all live rows.
abbrev pub built_of : Bool → List Slot → ℕ
built_of stale slots = if stale then length (live slots) else 0

-- The rows of a view are read: no more are opened than it shows, and besides as many as are live if it is stale.
abbrev pub OpensShown : LiveParts → ℕ → LiveParts → Type 0
OpensShown old place new =
    visits_in new.stores
    ≤ visits_in old.stores + built_of (get_or old.stale place true) (rows_at (rows_in old.stores) 0)
    + opened_of (view_at old.views place)
    (side_by (tables_in old.stores) (rows_in old.stores) (view_at old.views place)) (rows_at (rows_in old.stores) 0)
