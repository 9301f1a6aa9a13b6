-- What edits, and reverting them, do to tables and views that are kept current.
use Rattle.std.specs.Prelude.{◌≡◌, ℕ, Bool, false, List, IfOk, Result, Ok, Err, OnErr, OnOk, get_or, slice_set}
use Rattle.view_lang.specs.Edits.{TableEdit}
use Rattle.view_lang.specs.World.{table_at}
use Rattle.row_keys.specs.Slots.{Slot}
use Rattle.row_keys.specs.declared.faults.EditFault.{EditFault}
use Rattle.row_keys.specs.declared.faults.EditFault.TheVariants as fault
use Rattle.upkeep.specs.LiveParts.{LiveParts}
use Rattle.upkeep.specs.Stores.{rows_at, rows_in, tables_in, visits_in}
use Rattle.row_keys.specs.TableChanges.{IsChangeOf, Makes, back}
use Rattle.upkeep.specs.Touched.{OpensOnce, touched}
use Rattle.row_keys.specs.declared.table_change.TableChange.{TableChange}

-- Views become stale only where memory is refused.
abbrev pub StaleByMemory : {X : Type 0} → List Bool → Result X EditFault → List Bool → Type 0
StaleByMemory old (Ok x) new = new ≡ old
StaleByMemory old (Err (fault.Unfit u)) new = new ≡ old
StaleByMemory old (Err fault.Memory) new = Unit {0}

-- A view that is stale was stale before.
abbrev pub NoneBecomesStale : List Bool → List Bool → Type 0
NoneBecomesStale old new = (n : ℕ) → get_or old n false ≡ false → get_or new n false ≡ false

-- An edit of table n that is applied opens at most as many rows for each view as it touches; one that doesn't fit opens
-- none.
abbrev pub VisitsOf : ℕ → LiveParts → Result TableChange EditFault → LiveParts → Type 0
VisitsOf n old (Ok change) new =
    OpensOnce old (touched (tables_in old.stores) old.views (rows_in new.stores) n change) new
VisitsOf n old (Err (fault.Unfit u)) new = visits_in new.stores ≡ visits_in old.stores
VisitsOf n old (Err fault.Memory) new = Unit {0}

-- The rows of one table may have changed, and nothing else but what is stale and how often rows were opened.
pub record ChangedIn (n : ℕ) (old new : LiveParts) : Type 0 where
  pub others : rows_in new.stores ≡ slice_set (rows_in old.stores) n (rows_at (rows_in new.stores) n)
  pub tables : tables_in new.stores ≡ tables_in old.stores
  pub views : new.views ≡ old.views

-- An edit of table n is applied, or refused for a cause that applies.
pub record Edited (n : ℕ) (e : TableEdit) (old new : LiveParts) (answer : Result TableChange EditFault) : Type 0 where
  pub makes :
      Makes (table_at (tables_in old.stores) n) e (rows_at (rows_in old.stores) n) (rows_at (rows_in new.stores) n)
      answer
  pub kind : IfOk answer (IsChangeOf n)
  pub within : ChangedIn n old new
  pub stale : StaleByMemory old.stale answer new.stale
  pub visits : VisitsOf n old answer new

-- A change of table n that touched `rows_touched` rows is reverted, so that the table's rows are `slots`; or memory is
-- refused, and no row has changed.
pub record WentBack {X E : Type 0} (n : ℕ) (slots : List Slot) (rows_touched : ℕ) (old new : LiveParts)
    (answer : Result X E) : Type 0 where
  pub rows : OnOk answer (rows_in new.stores ≡ slice_set (rows_in old.stores) n slots)
  pub unchanged : OnErr answer (rows_in new.stores ≡ rows_in old.stores)
  pub tables : tables_in new.stores ≡ tables_in old.stores
  pub views : new.views ≡ old.views
  pub stale : OnOk answer (new.stale ≡ old.stale)
  pub visits : OnOk answer (OpensOnce old rows_touched new)

-- This change of table n is reverted, or memory is refused.
abbrev pub TakesBack : {X E : Type 0} → ℕ → TableChange → LiveParts → LiveParts → Result X E → Type 0
TakesBack n change old new answer =
    WentBack n (back change (rows_at (rows_in old.stores) n))
    (touched (tables_in old.stores) old.views (rows_in old.stores) n change) old new answer
