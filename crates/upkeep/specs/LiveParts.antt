-- What contracts see of tables and of views of them.
use Rattle.std.specs.Prelude.{ℕ, ◌<◌, All, Bool, List, [], None, drop, get_or, length, refl}
use Rattle.std.specs.Coded.{Coded, code_by, coded×, coded_bool, coded_list}
use Rattle.view_lang.specs.Config.{View, view_code}
use Rattle.view_lang.specs.ConfigRules.{IsView}
use Rattle.view_lang.specs.Outputs.{columns}
use Rattle.view_lang.specs.TableRules.{IsSideTable, IsTable}
use Rattle.view_lang.specs.World.{no_table}
use Rattle.row_keys.specs.Store.{Store, no_rows, store_code}
use Rattle.upkeep.specs.Stores.{rows_in, tables_in}
use Rattle.upkeep.specs.ViewStates.{AreCurrent}
use Rattle.upkeep.specs.declared.view_state.ViewState.{ViewState}

-- the rows of the tables, of which the first is the main table, the views, and which of them are stale
pub record LiveParts : Type 0 where
  pub stores : List Store
  pub views : List View
  pub stale : List Bool

abbrev pub live_code : Coded LiveParts
live_code =
    code_by (List Store × (List View × List Bool))
    (coded× (coded_list store_code) (coded× (coded_list view_code) (coded_list coded_bool)))
    (λ p. (p.stores, (p.views, p.stale))) (λ p. record { stores = p.0; views = p.1.0; stale = p.1.1 }) (λ _. refl)

-- there is a main table, those after it are side tables, and the views obey the rules of views of these tables
pub record AreOf (stores : List Store) (views : List View) : Type 0 where
  pub main : 0 < length stores
  pub right : All IsTable (tables_in stores)
  pub sides : All IsSideTable (drop 1 (tables_in stores))
  pub of_these : All (IsView (tables_in stores)) views

-- there are such tables and views, and each view is stale, or its state is computed from the live rows
pub record AreLive (stores : List Store) (views : List View) (states : List ViewState) : Type 0 where
  pub these : AreOf stores views
  pub current : AreCurrent (tables_in stores) (rows_in stores) views states

-- the result where there is no store of a number
abbrev pub no_store : Store
no_store = no_rows no_table

abbrev pub store_at : List Store → ℕ → Store
store_at stores n = get_or stores n no_store

abbrev pub no_view : View
no_view = record {
  name = [];
  lookup = None;
  filter = None;
  outputs = columns [];
  order = [];
  first = None;
  coded_outputs = [];
}

abbrev pub view_at : List View → ℕ → View
view_at views n = get_or views n no_view
