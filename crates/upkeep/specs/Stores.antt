-- The tables of stores, and the rows that they hold.
use Rattle.std.specs.Prelude.{◌≡◌, ℕ, List, [], get_or, map, slice_set}
use Rattle.view_lang.specs.Config.{Table}
use Rattle.view_lang.specs.World.{World, no_table}
use Rattle.row_keys.specs.Slots.{Slot, contents_of, released}
use Rattle.row_keys.specs.Store.{Store, no_rows}

-- the rows of each table, by number
abbrev pub Rows : Type 0
Rows = List (List Slot)

abbrev pub rows_at : Rows → ℕ → List Slot
rows_at rows n = get_or rows n []

-- the world of the live rows: the contents of each table
abbrev pub world_of : Rows → World
world_of rows = map contents_of rows

abbrev pub tables_in : List Store → List Table
tables_in stores = map (λ s. s.table) stores

abbrev pub rows_in : List Store → Rows
rows_in stores = map (λ s. s.slots) stores

-- the rows of the main table
abbrev pub main_slots : List Store → List Slot
main_slots stores = rows_at (rows_in stores) 0

-- the rows of a table
abbrev pub slots_in : List Store → ℕ → List Slot
slots_in stores n = rows_at (rows_in stores) n

-- how often a row of the main table was opened
abbrev pub visits_in : List Store → ℕ
visits_in stores = (get_or stores 0 (no_rows no_table)).visits

-- Stores have the tables and the rows that they had. How often rows were opened may differ.
pub record HaveSameRows (before after : List Store) : Type 0 where
  pub tables : tables_in after ≡ tables_in before
  pub rows : rows_in after ≡ rows_in before

-- the rows of all tables, when some of table k are released
abbrev pub released_at : ℕ → List ℕ → Rows → Rows
released_at k ns rows = slice_set rows k (released ns (rows_at rows k))
