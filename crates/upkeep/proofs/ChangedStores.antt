-- A store that was changed, among the others.
use Rattle.std.proofs.Common.{◌≡◌, ℕ, ◌<◌, All, List, Result, ap, arith, drop, get_or, length, subst, sym, ◌∙◌}
use Rattle.std.specs.Prelude.{slice_set}
use Rattle.std.proofs.lemmas.List.Elements.{All-get_or}
use Rattle.view_lang.specs.Config.{Table, View}
use Rattle.view_lang.specs.ConfigRules.{IsView}
use Rattle.view_lang.specs.Edits.{TableEdit}
use Rattle.view_lang.specs.TableRules.{IsSideTable, IsTable}
use Rattle.view_lang.specs.World.{table_at}
use Rattle.row_keys.specs.Slots.{Slot}
use Rattle.row_keys.specs.Store.{Store}
use Rattle.row_keys.specs.declared.faults.EditFault.{EditFault}
use Rattle.upkeep.specs.LiveParts.{AreOf}
use Rattle.upkeep.specs.Stores.{HaveSameRows, rows_at, rows_in, tables_in}
use Rattle.upkeep.specs.StoreLaws.{rows_length, rows_located, rows_set, rows_there, table_there, tables_length}
use Rattle.row_keys.specs.TableChanges.{CanGoBack, Makes}
use Rattle.row_keys.specs.declared.table_change.TableChange.{TableChange}

-- its rows afterwards
pub rows_now : (stores : List Store) (n : ℕ) (t : Store) → n < length stores
    → rows_at (rows_in (slice_set stores n t)) n ≡ t.slots
rows_now stores n t below =
    let many = rows_length stores in
    ap (λ rs. rows_at rs n) (rows_set stores n t) ∙ rows_located (rows_in stores) n t.slots (omega (arith, below, many))

pub others_same : (stores : List Store) (n : ℕ) (t : Store) → n < length stores
    → rows_in (slice_set stores n t) ≡ slice_set (rows_in stores) n (rows_at (rows_in (slice_set stores n t)) n)
others_same stores n t below =
    rows_set stores n t ∙ ap (slice_set (rows_in stores) n) (sym (rows_now stores n t below))

pub store_makes :
    (stores : List Store) (n : ℕ) (s t : Store) (e : TableEdit) (answer : Result TableChange EditFault)
    → s ≡ get_or stores n s → n < length stores → Makes s.table e s.slots t.slots answer
    → Makes (table_at (tables_in stores) n) e (rows_at (rows_in stores) n)
    (rows_at (rows_in (slice_set stores n t)) n) answer
store_makes stores n s t e answer is below made =
    let P : Table → Type 0 = λ u. Makes u e s.slots t.slots answer in
    let Q : List Slot → Type 0 = λ ss. Makes (table_at (tables_in stores) n) e ss t.slots answer in
    let R : List Slot → Type 0 = λ ss. Makes (table_at (tables_in stores) n) e (rows_at (rows_in stores) n) ss answer in
    subst R (sym (rows_now stores n t below))
    (subst Q (sym (rows_there stores n s is below)) (subst P (sym (table_there stores n s is below)) made))

pub store_can_go_back :
    (stores : List Store) (n : ℕ) (s : Store) (change : TableChange) → s ≡ get_or stores n s → n < length stores
    → CanGoBack (table_at (tables_in stores) n) change (rows_at (rows_in stores) n)
    → CanGoBack s.table change s.slots
store_can_go_back stores n s change is below can =
    let P : Table → Type 0 = λ t. CanGoBack t change (rows_at (rows_in stores) n) in
    let Q : List Slot → Type 0 = λ ss. CanGoBack s.table change ss in
    subst Q (rows_there stores n s is below) (subst P (table_there stores n s is below) can)

-- tables that stay, and views of them
pub still_of : (old new : List Store) (views : List View) → tables_in new ≡ tables_in old → AreOf old views
    → AreOf new views
still_of old new views same was =
    let one = tables_length old in
    let two = tables_length new in
    let equal = ap length same in
    let some = was.main in
    record {
      main = omega (arith, one, two, equal, some);
      right = subst (λ (ts : List Table). All IsTable ts) (sym same) was.right;
      sides = subst (λ (ts : List Table). All IsSideTable (drop 1 ts)) (sym same) was.sides;
      of_these = subst (λ (ts : List Table). All (IsView ts) views) (sym same) was.of_these;
    }

-- what stays twice
pub still_same : {a b c : List Store} → HaveSameRows a b → HaveSameRows b c → HaveSameRows a c
still_same first then = record { tables = then.tables ∙ first.tables; rows = then.rows ∙ first.rows }

-- a view by its number
pub view_there : (stores : List Store) (views : List View) (k : ℕ) (v : View) → AreOf stores views → k < length views
    → v ≡ get_or views k v → IsView (tables_in stores) v
view_there stores views k v are below is =
    subst (IsView (tables_in stores)) (sym is) (All-get_or (IsView (tables_in stores)) views k v below are.of_these)
