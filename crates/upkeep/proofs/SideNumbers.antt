-- The numbers of the rows of a side table that are looked up.
use Rattle.std.proofs.Common.{◌≡◌, ℕ, suc, ◌<◌, List, [], ◌∷◌, Option, Some, get_or, length, map, refl, ap, ap₂, sym, subst, ◌∙◌, arith}
use Rattle.std.specs.Prelude.{All, IfSome}
use Rattle.std.specs.Option.{option_map}
use Rattle.values.specs.Datum.{Datum}
use Rattle.view_lang.specs.Cells.{cell_at}
use Rattle.view_lang.specs.Config.{Table}
use Rattle.view_lang.specs.ConfigRules.{IsLookup}
use Rattle.view_lang.specs.Joined.{looked_up, side_of}
use Rattle.view_lang.specs.Views.{side_in}
use Rattle.view_lang.specs.World.{World, contents_at, table_at}
use Rattle.view_lang.specs.declared.view.Lookup.{Lookup}
use Rattle.row_keys.specs.LookedUp.{AreLive, found_rows, row_for}
use Rattle.row_keys.specs.Slots.{IsLiveAt, Slot, row_of}
use Rattle.row_keys.specs.Store.{Store}
use Rattle.upkeep.specs.StoreLaws.{rows_there, tables_length}
use Rattle.upkeep.specs.Stores.{HaveSameRows, Rows, main_slots, rows_at, rows_in, slots_in, tables_in, world_of}
use Rattle.upkeep.specs.JoinedRows.{AreLookedUp, row_beside}
use Rattle.upkeep.proofs.InputRows.{side_found}

module _ (stores : List Store) (l : Lookup) (m s : Store) (n : ℕ) (look : IsLookup (tables_in stores) (Some l))
    (some : 0 < length stores) (main : m ≡ get_or stores 0 m) (at : n ≡ suc l.side) (side : s ≡ get_or stores n s) where
  abbrev tables : List Table
  tables = tables_in stores

  abbrev world : World
  world = world_of (rows_in stores)

  below : n < length stores
  below = omega (arith, look.0, tables_length stores, at)

  slots_are : s.slots ≡ slots_in stores (suc l.side)
  slots_are = sym (rows_there stores n s side below) ∙ ap (slots_in stores) at

  pub main_are : m.slots ≡ main_slots stores
  main_are = sym (rows_there stores 0 m main some)

  beside : (visit : ℕ) → row_for s l.on (row_of m.slots visit) ≡ row_beside stores l visit
  beside visit =
      let row : List Datum = row_of m.slots visit in
      side_found stores n s row l.on (cell_at row l.on) (row_for s l.on row) side below refl refl
      ∙ ap (λ k. side_of (table_at tables k) (contents_at world k) (cell_at row l.on)) at
      ∙ ap (λ (slots : List Slot). side_of (table_at tables (suc l.side)) (contents_at world (suc l.side))
      (cell_at (row_of slots visit) l.on)) main_are

  all_beside : (visits : List ℕ) → map (row_for s l.on) (map (row_of m.slots) visits) ≡ map (row_beside stores l) visits
  all_beside [] = refl
  all_beside (v ∷ vs) = ap₂ (λ row rows. row ∷ rows) (beside v) (all_beside vs)

  pub sides_looked : (visits : List ℕ) (numbers : List (Option ℕ))
      → found_rows s numbers ≡ map (row_for s l.on) (map (row_of m.slots) visits) → AreLookedUp stores l visits numbers
  sides_looked visits numbers found =
      ap (λ (slots : List Slot). map (option_map (row_of slots)) numbers) (sym slots_are) ∙ found ∙ all_beside visits

  pub sides_live : (numbers : List (Option ℕ)) → AreLive s numbers
      → All (λ o. IfSome o (IsLiveAt (slots_in stores (suc l.side)))) numbers
  sides_live numbers live =
      subst (λ (slots : List Slot). All (λ o. IfSome o (IsLiveAt slots)) numbers) slots_are live

-- the same in stores that had the same rows

abbrev looked_in : Lookup → List Table → Rows → ℕ → Option (List Datum)
looked_in l tables rows n = looked_up (Some l) (side_in tables (world_of rows) (Some l)) (row_of (rows_at rows 0) n)

abbrev AreIn : Lookup → List ℕ → List (Option ℕ) → List Table → Rows → Type 0
AreIn l numbers sides tables rows =
    map (option_map (row_of (rows_at rows (suc l.side)))) sides ≡ map (looked_in l tables rows) numbers

pub looked_before : (old now : List Store) (l : Lookup) (numbers : List ℕ) (sides : List (Option ℕ))
    → HaveSameRows old now → AreLookedUp now l numbers sides → AreLookedUp old l numbers sides
looked_before old now l numbers sides same looked =
    subst (AreIn l numbers sides (tables_in old)) same.rows
    (subst (λ tables. AreIn l numbers sides tables (rows_in now)) same.tables looked)

pub live_before : (old now : List Store) (n : ℕ) (sides : List (Option ℕ)) → HaveSameRows old now
    → All (λ o. IfSome o (IsLiveAt (slots_in now n))) sides → All (λ o. IfSome o (IsLiveAt (slots_in old n))) sides
live_before old now n sides same live =
    subst (λ (rows : Rows). All (λ o. IfSome o (IsLiveAt (rows_at rows n))) sides) same.rows live
