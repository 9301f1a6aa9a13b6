-- The rows of views are of the types that are declared for them.
use Rattle.std.proofs.Common.{
  ◌≡◌,
  ℕ,
  suc,
  ◌<◌,
  ◌≤◌,
  Bool,
  true,
  false,
  cond,
  All,
  IfSome,
  List,
  [],
  ◌∷◌,
  Option,
  None,
  Some,
  ap,
  arith,
  find,
  get_or,
  length,
  subst,
  sym,
}
use Rattle.std.proofs.lemmas.List.Elements.{All-cons, All-head, All-nil, All-tail}
use Rattle.values.specs.Datum.{Datum, null}
use Rattle.values.specs.Limits.{max_main_rows}
use Rattle.view_lang.specs.Cells.{cell_at}
use Rattle.view_lang.specs.Config.{Table, View}
use Rattle.view_lang.specs.ConfigRules.{IsLookup, IsView}
use Rattle.view_lang.specs.Contents.{Contents, key_in, same_key}
use Rattle.view_lang.specs.Joined.{side_of}
use Rattle.view_lang.specs.Laws.{IsLookedUp, Viewed}
use Rattle.view_lang.specs.Rows.{IsRow}
use Rattle.view_lang.specs.TableRules.{IsTable}
use Rattle.view_lang.specs.Views.{side_in}
use Rattle.view_lang.specs.World.{contents_at, table_at}
use Rattle.view_lang.specs.declared.view.Lookup.{Lookup}
use Rattle.row_keys.specs.Slots.{Slot, contents_of, live}
use Rattle.row_keys.specs.Store.{Store}
use Rattle.upkeep.specs.Inputs.{side_by}
use Rattle.upkeep.specs.Stores.{Rows, rows_at, rows_in, tables_in, world_of}
use Rattle.upkeep.specs.StoreLaws.{rows_there, table_there}
use Rattle.upkeep.proofs.InputRows.{contents_stored}

-- a row that is found is one of those
found_held_by : (P : List Datum → Type 0) (r : List Datum) (o : Option (List Datum)) (b : Bool) → P r → IfSome o P
    → IfSome (cond b (Some r) o) P
found_held_by P r o true here rest = here
found_held_by P r o false here rest = rest

found_held : (P : List Datum → Type 0) (test : List Datum → Bool) (rows : List (List Datum)) → All P rows
    → IfSome (find test rows) P
found_held P test [] held = tt
found_held P test (r ∷ rs) held =
    found_held_by P r (find test rs) (test r) (All-head P r rs held) (found_held P test rs (All-tail P r rs held))

side_held : (P : List Datum → Type 0) (t : Table) (c : Contents) (cell : Datum) → All P c.live
    → IfSome (side_of t c cell) P
unfolding side_of
side_held P t c null held = tt
side_held P t c cell held = found_held P (λ row. same_key cell (key_in t row)) c.live held

-- each of them
each_held : (P : List Datum → Type 0) (rows : List (List Datum)) → ((row : List Datum) → P row) → All P rows
each_held P [] all = All-nil P
each_held P (r ∷ rs) all = All-cons P r rs (all r) (each_held P rs all)

module _ (stores : List Store) (v : View) (s : Store) (right : All IsTable (tables_in stores))
    (is_view : IsView (tables_in stores) v) (some : 0 < length stores) (main : s ≡ get_or stores 0 s)
    (held : All (IsRow s.table.columns) (live s.slots)) (table : IsTable s.table)
    (few : length (live s.slots) ≤ s.table.max_rows) where
  abbrev rows : Rows
  rows = rows_in stores

  main_held : All (IsRow (table_at (tables_in stores) 0).columns) (live (rows_at rows 0))
  main_held =
      subst (λ (t : Table). All (IsRow t.columns) (live (rows_at rows 0))) (sym (table_there stores 0 s main some))
      (subst (λ (ss : List Slot). All (IsRow s.table.columns) (live ss)) (sym (rows_there stores 0 s main some))
      held)

  main_few : length (live (rows_at rows 0)) ≤ max_main_rows
  main_few =
      let same = ap (λ (ss : List Slot). length (live ss)) (rows_there stores 0 s main some) in
      omega (arith, same, few, table.few)

  pub viewed_with : (looked : (row : List Datum) → IsLookedUp (tables_in stores) v.lookup (side_by (tables_in stores)
      rows v)
      row) → Viewed (tables_in stores) v (side_by (tables_in stores) rows v) (live (rows_at rows 0))
  viewed_with looked = record {
    right = right;
    view = is_view;
    held = main_held;
    few = main_few;
    looked_up =
        each_held (IsLookedUp (tables_in stores) v.lookup (side_by (tables_in stores) rows v)) (live (rows_at rows 0))
        looked;
  }

  pub viewed_alone : v.lookup ≡ None
      → Viewed (tables_in stores) v (side_by (tables_in stores) rows v) (live (rows_at rows 0))
  viewed_alone none = viewed_with (λ row.
      subst (λ (o : Option Lookup). IsLookedUp (tables_in stores) o (side_in (tables_in stores) (world_of rows) o) row)
      (sym none) tt)

  pub viewed_joined : (l : Lookup) (n : ℕ) (side : Store) → v.lookup ≡ Some l → n ≡ suc l.side
      → side ≡ get_or stores n side → n < length stores
      → All (IsRow side.table.columns) (live side.slots)
      → Viewed (tables_in stores) v (side_by (tables_in stores) rows v) (live (rows_at rows 0))
  viewed_joined l n side is at there below side_rows = viewed_with (λ row.
      let P : List Datum → Type 0 = IsRow side.table.columns in
      let found : IfSome (side_of side.table (contents_of side.slots) (cell_at row l.on)) P =
      side_held P side.table (contents_of side.slots) (cell_at row l.on) side_rows in
      let Q : Table → Contents → Type 0 = λ t c. IfSome (side_of t c (cell_at row l.on)) (IsRow t.columns) in
      let here : Q (table_at (tables_in stores) n) (contents_at (world_of rows) n) =
      subst (λ (c : Contents). Q (table_at (tables_in stores) n) c) (sym (contents_stored stores n side there below))
      (subst (λ (t : Table). Q t (contents_of side.slots)) (sym (table_there stores n side there below)) found) in
      let joined : Q (table_at (tables_in stores) (suc l.side)) (contents_at (world_of rows) (suc l.side)) =
      subst (λ k. Q (table_at (tables_in stores) k) (contents_at (world_of rows) k)) at here in
      subst (λ (o : Option Lookup). IsLookedUp (tables_in stores) o (side_in (tables_in stores) (world_of rows) o) row)
      (sym is) joined)

-- the side table exists
pub side_there : (tables : List Table) (lookup : Option Lookup) (l : Lookup) → IsLookup tables lookup → lookup ≡ Some l
    → suc l.side < length tables
side_there tables lookup l right is = (subst (IsLookup tables) is right).0
