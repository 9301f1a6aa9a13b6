-- What a view shows of the tables, and of the rows that are live in their stores.
use Rattle.std.specs.Prelude.{List}
use Rattle.values.specs.Datum.{Datum}
use Rattle.view_lang.specs.Config.{View}
use Rattle.view_lang.specs.Laws.{Viewed}
use Rattle.view_lang.specs.Views.{view_rows}
use Rattle.row_keys.specs.Slots.{live}
use Rattle.row_keys.specs.Store.{Store}
use Rattle.upkeep.specs.Inputs.{side_from}
use Rattle.upkeep.specs.Shown.{Shows}
use Rattle.upkeep.specs.Stores.{main_slots, rows_in, tables_in}
use Rattle.upkeep.specs.declared.shown.Shown.{Shown}

-- The view is one of these tables, and of the live rows in them.
abbrev pub IsViewed : List Store → View → Type 0
IsViewed stores v = Viewed (tables_in stores) v (side_from stores v) (live (main_slots stores))

-- the rows that the view shows
abbrev pub rows_shown : List Store → View → List (List Datum)
rows_shown stores v = view_rows v (side_from stores v) (live (main_slots stores))

-- This is what was read from the view.
abbrev pub ShowsView : List Store → View → Shown → Type 0
ShowsView stores v shown = Shows v (tables_in stores) (rows_in stores) shown (rows_shown stores v)
