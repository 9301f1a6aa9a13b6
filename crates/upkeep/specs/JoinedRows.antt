-- Rows of the main table with the cells of a side table's row, where both lie.
use Rattle.std.specs.Prelude.{◌≡◌, ℕ, suc, All, IfSome, List, ◌++◌, map, replicate, Option, None, Some}
use Rattle.std.specs.Option.{option_map}
use Rattle.values.specs.Datum.{Datum, null}
use Rattle.view_lang.specs.Joined.{looked_up}
use Rattle.view_lang.specs.Outputs.{Output}
use Rattle.view_lang.specs.Views.{side_in}
use Rattle.view_lang.specs.declared.view.Lookup.{Lookup}
use Rattle.row_keys.specs.Slots.{IsLiveAt, row_of}
use Rattle.row_keys.specs.Store.{Store}
use Rattle.upkeep.specs.Stores.{main_slots, rows_in, slots_in, tables_in, world_of}
use Rattle.upkeep.specs.declared.joined_row.JoinedRow.{JoinedRow}
use Rattle.upkeep.specs.declared.shown.JoinedColumns.{JoinedColumns}

-- the cells of a side table's row; as many nulls where there is none
abbrev pub side_cells : Option (List Datum) → ℕ → List Datum
side_cells None n = replicate n null
side_cells (Some row) n = row

abbrev pub joined_cells : JoinedRow → List Datum
joined_cells j = j.main ++ side_cells j.side j.nulls

-- the side table's row for the row of a number
abbrev pub row_beside : List Store → Lookup → ℕ → Option (List Datum)
row_beside stores l n =
    looked_up (Some l) (side_in (tables_in stores) (world_of (rows_in stores)) (Some l)) (row_of (main_slots stores) n)

-- For the rows of these numbers the side table's rows of those numbers are looked up, where there are some.
abbrev pub AreLookedUp : List Store → Lookup → List ℕ → List (Option ℕ) → Type 0
AreLookedUp stores l numbers sides =
    map (option_map (row_of (slots_in stores (suc l.side)))) sides ≡ map (row_beside stores l) numbers

-- The columns are those of these outputs, of the rows of these numbers and of those that are looked up for them.
pub record JoinsWith (stores : List Store) (l : Lookup) (outputs : List Output) (numbers : List ℕ) (j : JoinedColumns) :
    Type 0 where
  pub columns_are : j.columns.items ≡ map (λ o. o.column) outputs
  pub visits_are : j.visits ≡ numbers
  pub table_is : j.table ≡ suc l.side
  pub looked_up : AreLookedUp stores l numbers j.side_numbers.items
  pub live : All (λ o. IfSome o (IsLiveAt (slots_in stores (suc l.side)))) j.side_numbers.items
