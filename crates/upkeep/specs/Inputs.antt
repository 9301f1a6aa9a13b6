-- The rows that a view is computed from, as they are found in the stores.
use Rattle.std.specs.Prelude.{List, [], ◌∷◌, Option, None, Some}
use Rattle.values.specs.Datum.{Datum}
use Rattle.view_lang.specs.Config.{Table, View}
use Rattle.view_lang.specs.Joined.{Side}
use Rattle.view_lang.specs.Views.{side_in}
use Rattle.row_keys.specs.Store.{Store}
use Rattle.upkeep.specs.Stores.{Rows, rows_in, tables_in, world_of}

-- the side table that a view looks up, if it does
abbrev pub side_by : List Table → Rows → View → Side
side_by tables rows v = side_in tables (world_of rows) v.lookup

-- the same of tables and rows in stores
abbrev pub side_from : List Store → View → Side
side_from stores v = side_by (tables_in stores) (rows_in stores) v

abbrev pub listed : Option (List Datum) → List (List Datum)
listed None = []
listed (Some row) = row ∷ []
