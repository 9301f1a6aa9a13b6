-- Edits of the main table, and of the states of its views.
use Rattle.std.proofs.Common.{
  ◌≡◌,
  ℕ,
  ◌<◌,
  ◌≤◌,
  All,
  Bool,
  List,
  [],
  ◌∷◌,
  Ok,
  Err,
  get_or,
  length,
  refl,
  ap,
  sym,
  subst,
  ◌∙◌,
  arith,
}
use Rattle.std.specs.Prelude.{slice_set}
use Rattle.values.specs.Datum.{Datum}
use Rattle.values.specs.Limits.{max_main_rows}
use Rattle.view_lang.specs.Causes.{cause_of}
use Rattle.view_lang.specs.Config.{Table, View}
use Rattle.view_lang.specs.Edits.{TableEdit}
use Rattle.view_lang.specs.Shifts.{Fits, IsFew, NumberedRows, Shift, patched}
use Rattle.view_lang.specs.TableRules.{IsTable}
use Rattle.view_lang.specs.World.{table_at}
use Rattle.row_keys.specs.Numbered.{numbered}
use Rattle.row_keys.specs.NumberLaws.{
  FewPutBack,
  FewRetracted,
  Leads,
  NewCome,
  PutBackCome,
  RetractedGo,
  RevertedGo,
  RowsAreLive,
  with_new,
}
use Rattle.row_keys.specs.Slots.{
  CanPutBack,
  CanRetract,
  CanRevert,
  IsLiveAt,
  Slot,
  contents_of,
  live,
  put_back,
  retracted,
  reverted,
}
use Rattle.row_keys.specs.Store.{Refuses, Store, live_in, with_slots}
use Rattle.row_keys.specs.declared.faults.EditFault.{EditFault}
use Rattle.row_keys.specs.declared.faults.EditFault.TheVariants as fault
use Rattle.upkeep.specs.LiveEdits.{ChangedIn, Edited, StaleByMemory, VisitsOf, WentBack}
use Rattle.upkeep.specs.LiveParts.{AreLive, AreOf, LiveParts}
use Rattle.upkeep.specs.Stores.{Rows, rows_at, rows_in, tables_in, visits_in}
use Rattle.upkeep.specs.StoreLaws.{rows_kept, rows_set, rows_there, table_there, tables_set}
use Rattle.row_keys.specs.TableChanges.{IsChangeOf, Makes}
use Rattle.upkeep.specs.Touched.{OpensOnce, touched}
use Rattle.upkeep.specs.ViewStates.{EachIsCurrent, turned, turned_last}
use Rattle.row_keys.specs.declared.table_change.TableChange.{TableChange}
use Rattle.upkeep.specs.declared.view_state.Turn.TheVariants as turn
use Rattle.upkeep.specs.declared.view_state.ViewState.{ViewState}
use Rattle.upkeep.proofs.ChangedStores.{others_same, rows_now, still_of, store_makes}
use Rattle.upkeep.proofs.MainTable.{
  each_set,
  gives,
  last_there,
  live_few,
  live_same,
  live_set,
  needs,
  new_few,
  new_lead,
  of_set,
  put_back_few,
  retracted_few,
  retracted_live,
  retracted_there,
}

abbrev pub parts : List Store → List View → List Bool → LiveParts
parts stores views stale = record { stores = stores; views = views; stale = stale }

pub current_there :
    (stores : List Store) (views : List View) (states : List ViewState) (s : Store) → s ≡ get_or stores 0 s
    → AreLive stores views states → EachIsCurrent (tables_in stores) (rows_in stores) (numbered s.slots) views states
current_there stores views states s is are =
    let P : List Slot → Type 0 = λ ss. EachIsCurrent (tables_in stores) (rows_in stores) (numbered ss) views states in
    subst P (rows_there stores 0 s is are.these.main) are.current

-- a store whose rows have not changed
pub live_unchanged :
    (stores : List Store) (views : List View) (states : List ViewState) (s t : Store) → s ≡ get_or stores 0 s
    → t.table ≡ s.table → t.slots ≡ s.slots → AreLive stores views states
    → AreLive (slice_set stores 0 t) views states
live_unchanged stores views states s t is same slots are =
    let P : List Slot → Type 0 = λ ss. EachIsCurrent (tables_in stores) (rows_in stores) (numbered ss) views states in
    live_set stores s t views states is same are.these
    (subst P (sym slots) (current_there stores views states s is are))

-- New rows are inserted.

pub new_needs :
    NewCome → RowsAreLive → (stores : List Store) (views vs : List View) (states : List ViewState) (s t now : Store)
    (rows : List (List Datum)) (n : ℕ) → vs ≡ views → AreLive stores views states → s ≡ get_or stores 0 s
    → t.table ≡ s.table → t.slots ≡ with_new s.slots rows → length rows ≡ n
    → now ≡ get_or (slice_set stores 0 t) 0 now → IsTable now.table → length (live_in now) ≤ now.table.max_rows
    → (x : NumberedRows)
    × (EachIsCurrent (tables_in (slice_set stores 0 t)) (rows_in (slice_set stores 0 t)) x vs states
    × (Fits x (turned_last turn.Come (rows_at (rows_in (slice_set stores 0 t)) 0) n) × (length x ≤ max_main_rows)))
new_needs come_law live_law stores views vs states s t now rows n same are is table made long there right few =
    let slots : List Slot = rows_at (rows_in (slice_set stores 0 t)) 0 in
    let slots_are : slots ≡ with_new s.slots rows = rows_now stores 0 t are.these.main ∙ made in
    let below = (of_set stores s t views is table are.these).main in
    let held : length (live slots) ≤ now.table.max_rows =
    subst (λ (ss : List Slot). length (live ss) ≤ now.table.max_rows)
    (sym (rows_there (slice_set stores 0 t) 0 now there below)) few in
    needs (tables_in (slice_set stores 0 t)) (rows_in (slice_set stores 0 t)) views vs states (numbered s.slots)
    (numbered slots) (turned_last turn.Come slots n) (λ (x : NumberedRows). length x ≤ max_main_rows) same
    (each_set stores s t (numbered s.slots) views states is table (current_there stores views states s is are))
    (new_lead come_law s.slots slots rows n slots_are long)
    (new_few live_law now.table s.slots slots rows slots_are right held)

pub new_live :
    NewCome → (stores new : List Store) (views vs : List View) (states now : List ViewState) (s t : Store)
    (rows : List (List Datum)) (n : ℕ) → vs ≡ views → AreLive stores views states → s ≡ get_or stores 0 s
    → t.table ≡ s.table → t.slots ≡ with_new s.slots rows → length rows ≡ n
    → tables_in new ≡ tables_in (slice_set stores 0 t) → rows_in new ≡ rows_in (slice_set stores 0 t)
    → ((x : NumberedRows) → Fits x (turned_last turn.Come (rows_at (rows_in (slice_set stores 0 t)) 0) n)
    → EachIsCurrent (tables_in (slice_set stores 0 t)) (rows_in (slice_set stores 0 t)) x vs states
    → EachIsCurrent (tables_in (slice_set stores 0 t)) (rows_in (slice_set stores 0 t))
    (patched x (turned_last turn.Come (rows_at (rows_in (slice_set stores 0 t)) 0) n)) vs now)
    → AreLive new views now
new_live come_law stores new views vs states now s t rows n same are is table made long tables same_rows kept =
    let slots : List Slot = rows_at (rows_in (slice_set stores 0 t)) 0 in
    let slots_are : slots ≡ with_new s.slots rows = rows_now stores 0 t are.these.main ∙ made in
    live_same (slice_set stores 0 t) new views now tables same_rows (record {
      these = of_set stores s t views is table are.these;
      current =
          gives (tables_in (slice_set stores 0 t)) (rows_in (slice_set stores 0 t)) views vs states now
          (numbered s.slots) (numbered slots) (turned_last turn.Come slots n) same
          (each_set stores s t (numbered s.slots) views states is table
          (current_there stores views states s is are))
          (new_lead come_law s.slots slots rows n slots_are long) kept;
    })

-- what was done to the main table
pub edit_made :
    (old stores now : List Store) (views : List View) (a b : List Bool) (s t : Store) (e : TableEdit)
    (change : TableChange) → s ≡ get_or stores 0 s → t.table ≡ s.table → 0 < length stores
    → Makes s.table e s.slots t.slots (Ok change) → IsChangeOf 0 change → tables_in stores ≡ tables_in old
    → rows_in stores ≡ rows_in old → tables_in now ≡ tables_in (slice_set stores 0 t)
    → rows_in now ≡ rows_in (slice_set stores 0 t) → b ≡ a
    → OpensOnce (parts old views a) (touched (tables_in old) views (rows_in now) 0 change) (parts now views b)
    → Edited 0 e (parts old views a) (parts now views b) (Ok change)
edit_made old stores now views a b s t e change is table main made kind tables_old rows_old tables_now rows_is stale
    opens =
    let answer : Makes (table_at (tables_in stores) 0) e (rows_at (rows_in stores) 0)
    (rows_at (rows_in (slice_set stores 0 t)) 0) (Ok change) = store_makes stores 0 s t e (Ok change) is main made in
    let P : Rows → Type 0 = λ rs. Makes (table_at (tables_in stores) 0) e (rows_at (rows_in stores) 0) (rows_at rs 0)
    (Ok change) in
    let Q : Rows → Type 0 = λ rs. Makes (table_at (tables_in stores) 0) e (rows_at rs 0) (rows_at (rows_in now) 0)
    (Ok change) in
    let R : List Table → Type 0 = λ ts. Makes (table_at ts 0) e (rows_at (rows_in old) 0) (rows_at (rows_in now) 0)
    (Ok change) in
    record {
      makes = subst R tables_old (subst Q rows_old (subst P (sym rows_is) answer));
      kind = kind;
      within = record {
        others =
            rows_is ∙ others_same stores 0 t main
            ∙ ap (λ (rs : Rows). slice_set rs 0 (rows_at (rows_in (slice_set stores 0 t)) 0)) rows_old
            ∙ ap (λ (rs : Rows). slice_set (rows_in old) 0 (rows_at rs 0)) (sym rows_is);
        tables = tables_now ∙ tables_set stores 0 s t is table ∙ tables_old;
        views = refl;
      };
      stale = stale;
      visits = opens;
    }

still_stale : (f : EditFault) (a b : List Bool) → b ≡ a → StaleByMemory {X = TableChange} a (Err f) b
still_stale (fault.Unfit u) a b same = same
still_stale fault.Memory a b same = tt

still_visits : (f : EditFault) (n : ℕ) (a b : LiveParts) → visits_in b.stores ≡ visits_in a.stores
    → VisitsOf n a (Err f) b
still_visits (fault.Unfit u) n a b same = same
still_visits fault.Memory n a b same = tt

within_same :
    (old now : List Store) (views : List View) (a b : List Bool) → tables_in now ≡ tables_in old
    → rows_in now ≡ rows_in old → ChangedIn 0 (parts old views a) (parts now views b)
within_same old now views a b tables rows = record {
  others = rows ∙ sym (rows_kept (rows_in old) 0 (rows_at (rows_in now) 0) (ap (λ (rs : Rows). rows_at rs 0) rows));
  tables = tables;
  views = refl;
}

-- what was refused
pub edit_refused :
    (old now : List Store) (views : List View) (a b : List Bool) (e : TableEdit) (f : EditFault)
    → tables_in now ≡ tables_in old → rows_in now ≡ rows_in old → b ≡ a → visits_in now ≡ visits_in old
    → Refuses (cause_of (table_at (tables_in old) 0) (contents_of (rows_at (rows_in old) 0)) e) f
    → Edited 0 e (parts old views a) (parts now views b) (Err f)
edit_refused old now views a b e f tables rows stale visits refuses = record {
  makes = (refuses, ap (λ (rs : Rows). rows_at rs 0) rows);
  kind = tt;
  within = within_same old now views a b tables rows;
  stale = still_stale f a b stale;
  visits = still_visits f 0 (parts old views a) (parts now views b) visits;
}

-- what was reverted again

pub new_there :
    (stores : List Store) (s t : Store) (rows : List (List Datum)) (n : ℕ) → 0 < length stores
    → t.slots ≡ with_new s.slots rows → length rows ≡ n → n ≤ length (rows_at (rows_in (slice_set stores 0 t)) 0)
new_there stores s t rows n main made long =
    last_there s.slots (rows_at (rows_in (slice_set stores 0 t)) 0) rows n (rows_now stores 0 t main ∙ made) long

-- states that are current with anything
pub live_anyhow :
    (stores mid : List Store) (views vs : List View) (states : List ViewState) (u v : Store) → vs ≡ views
    → AreOf stores views → tables_in mid ≡ tables_in stores → u ≡ get_or mid 0 u → v.table ≡ u.table
    → ((tables : List Table) (rows : Rows) (now : NumberedRows) → EachIsCurrent tables rows now vs states)
    → AreLive (slice_set mid 0 v) views states
live_anyhow stores mid views vs states u v same are tables is table any =
    live_set mid u v views states is table (still_of stores mid views tables are)
    (subst (λ (ws : List View). EachIsCurrent (tables_in mid) (rows_in mid) (numbered v.slots) ws states) same
    (any (tables_in mid) (rows_in mid) (numbered v.slots)))

-- The views follow rows that are deleted or inserted again before their store is changed.

pub there_needs :
    (stores : List Store) (views vs : List View) (states : List ViewState) (s : Store) (new : NumberedRows)
    (change : List Slot → List Shift) (Few : List Slot → NumberedRows → Type 0) → vs ≡ views
    → AreLive stores views states → s ≡ get_or stores 0 s
    → Leads (numbered s.slots) (change s.slots) new → Few s.slots (numbered s.slots)
    → (x : NumberedRows)
    × (EachIsCurrent (tables_in stores) (rows_in stores) x vs states
    × (Fits x (change (rows_at (rows_in stores) 0)) × Few (rows_at (rows_in stores) 0) x))
there_needs stores views vs states s new change Few same are is leads few =
    let there : rows_at (rows_in stores) 0 ≡ s.slots = rows_there stores 0 s is are.these.main in
    let P : List Slot → Type 0 = λ ss. Leads (numbered s.slots) (change ss) new in
    let Q : List Slot → Type 0 = λ ss. Few ss (numbered s.slots) in
    needs (tables_in stores) (rows_in stores) views vs states (numbered s.slots) new
    (change (rows_at (rows_in stores) 0)) (Few (rows_at (rows_in stores) 0)) same
    (current_there stores views states s is are) (subst P (sym there) leads) (subst Q (sym there) few)

pub there_live :
    (stores mid : List Store) (views vs : List View) (states now : List ViewState) (s u v : Store)
    (change : List Slot → List Shift) (after : List Slot → List Slot) → vs ≡ views → AreLive stores views states
    → s ≡ get_or stores 0 s → Leads (numbered s.slots) (change s.slots) (numbered (after s.slots))
    → ((x : NumberedRows) → Fits x (change (rows_at (rows_in stores) 0))
    → EachIsCurrent (tables_in stores) (rows_in stores) x vs states
    → EachIsCurrent (tables_in stores) (rows_in stores) (patched x (change (rows_at (rows_in stores) 0))) vs now)
    → tables_in mid ≡ tables_in stores → rows_in mid ≡ rows_in stores → u ≡ get_or mid 0 u
    → v ≡ with_slots u (after u.slots) → AreLive (slice_set mid 0 v) views now
there_live stores mid views vs states now s u v change after same are is leads kept tables rows there done =
    let here : rows_at (rows_in stores) 0 ≡ s.slots = rows_there stores 0 s is are.these.main in
    let mid_are : AreOf mid views = still_of stores mid views tables are.these in
    let held : u.slots ≡ s.slots =
    sym (rows_there mid 0 u there mid_are.main) ∙ ap (λ (rs : Rows). rows_at rs 0) rows ∙ here in
    let slots : v.slots ≡ after s.slots = ap (λ (x : Store). x.slots) done ∙ ap after held in
    let P : List Slot → Type 0 = λ ss. Leads (numbered s.slots) (change ss) (numbered (after s.slots)) in
    let moved : EachIsCurrent (tables_in stores) (rows_in stores) (numbered (after s.slots)) views now =
    gives (tables_in stores) (rows_in stores) views vs states now (numbered s.slots) (numbered (after s.slots))
    (change (rows_at (rows_in stores) 0)) same (current_there stores views states s is are) (subst P (sym here) leads)
    kept in
    let Q : List Slot → Type 0 = λ ss. EachIsCurrent (tables_in mid) (rows_in mid) (numbered ss) views now in
    let R : List Table → Type 0 = λ ts. EachIsCurrent ts (rows_in mid) (numbered (after s.slots)) views now in
    let S : Rows → Type 0 = λ rs. EachIsCurrent (tables_in stores) rs (numbered (after s.slots)) views now in
    live_set mid u v views now there (ap (λ (x : Store). x.table) done) mid_are
    (subst Q (sym slots) (subst R (sym tables) (subst S (sym rows) moved)))

-- what was reverted, and what was not
pub went_back :
    {X E : Type 0} (stores mid : List Store) (views : List View) (a b : List Bool) (u v : Store)
    (after : List Slot → List Slot) (n : ℕ) (x : X) → 0 < length mid → tables_in mid ≡ tables_in stores
    → rows_in mid ≡ rows_in stores → u ≡ get_or mid 0 u → v ≡ with_slots u (after u.slots) → b ≡ a
    → OpensOnce (parts stores views a) n (parts (slice_set mid 0 v) views b)
    → WentBack {X = X} {E = E} 0 (after (rows_at (rows_in stores) 0)) n (parts stores views a)
    (parts (slice_set mid 0 v) views b) (Ok x)
went_back stores mid views a b u v after n x main tables rows there done stale opens =
    let held : u.slots ≡ rows_at (rows_in stores) 0 =
    sym (rows_there mid 0 u there main) ∙ ap (λ (rs : Rows). rows_at rs 0) rows in
    record {
      rows =
          rows_set mid 0 v ∙ ap (λ (rs : Rows). slice_set rs 0 v.slots) rows
          ∙ ap (slice_set (rows_in stores) 0) (ap (λ (y : Store). y.slots) done ∙ ap after held);
      unchanged = tt;
      tables = tables_set mid 0 u v there (ap (λ (y : Store). y.table) done) ∙ tables;
      views = refl;
      stale = stale;
      visits = opens;
    }

pub stayed :
    {X E : Type 0} (stores mid : List Store) (views : List View) (a b : List Bool) (slots : List Slot) (n : ℕ) (e : E)
    → tables_in mid ≡ tables_in stores → rows_in mid ≡ rows_in stores
    → WentBack {X = X} {E = E} 0 slots n (parts stores views a) (parts mid views b) (Err e)
stayed stores mid views a b slots n e tables rows = record {
  rows = tt;
  unchanged = rows;
  tables = tables;
  views = refl;
  stale = tt;
  visits = tt;
}

one_store : (stores : List Store) (s t : Store) → 0 < length stores → s ≡ get_or stores 0 s → t ≡ get_or stores 0 t
    → s ≡ t
one_store [] s t main is same = absurd (omega (arith, main))
one_store (x ∷ xs) s t main is same = is ∙ sym same

-- Rows exist that are named in another list.
pub rows_named :
    (stores : List Store) (s : Store) (ns named : List ℕ) → s ≡ get_or stores 0 s → 0 < length stores → named ≡ ns
    → All (λ n. n < length s.slots) ns → All (λ n. n < length (rows_at (rows_in stores) 0)) named
rows_named stores s ns named is main same there =
    let P : List Slot → Type 0 = λ ss. All (λ n. n < length ss) ns in
    let Q : List ℕ → Type 0 = λ ms. All (λ n. n < length (rows_at (rows_in stores) 0)) ms in
    subst Q (sym same) (subst P (sym (rows_there stores 0 s is main)) there)

-- Rows that are retracted.

pub retract_there :
    (stores : List Store) (s : Store) (ns named : List ℕ) → s ≡ get_or stores 0 s → 0 < length stores → named ≡ ns
    → CanRetract ns s.slots → All (λ n. n < length (rows_at (rows_in stores) 0)) named
retract_there stores s ns named is main same can =
    rows_named stores s ns named is main same (retracted_there ns s.slots can)

pub retract_alive :
    (stores : List Store) (s : Store) (ns named : List ℕ) → s ≡ get_or stores 0 s → 0 < length stores → named ≡ ns
    → CanRetract ns s.slots → All (IsLiveAt (rows_at (rows_in stores) 0)) named
retract_alive stores s ns named is main same can =
    let P : List Slot → Type 0 = λ ss. All (IsLiveAt ss) ns in
    let Q : List ℕ → Type 0 = λ ms. All (IsLiveAt (rows_at (rows_in stores) 0)) ms in
    subst Q (sym same) (subst P (sym (rows_there stores 0 s is main)) (retracted_live ns s.slots can))

pub retract_needs :
    RowsAreLive → FewRetracted → RetractedGo → (stores : List Store) (views vs : List View) (states : List ViewState)
    (s t : Store) (ns named : List ℕ) → vs ≡ views → AreLive stores views states → s ≡ get_or stores 0 s
    → t ≡ get_or stores 0 t → named ≡ ns → CanRetract ns s.slots → IsTable t.table
    → length (live_in t) ≤ t.table.max_rows
    → (x : NumberedRows)
    × (EachIsCurrent (tables_in stores) (rows_in stores) x vs states
    × (Fits x (turned turn.Go (rows_at (rows_in stores) 0) named)
    × IsFew x (turned turn.Go (rows_at (rows_in stores) 0) named)))
retract_needs live_law few_law go_law stores views vs states s t ns named same are is there name can right few =
    let one : t ≡ s = one_store stores t s are.these.main there is in
    let can_named : CanRetract named s.slots = subst (λ (ms : List ℕ). CanRetract ms s.slots) (sym name) can in
    there_needs stores views vs states s (numbered (retracted named s.slots))
    (λ (ss : List Slot). turned turn.Go ss named)
    (λ (ss : List Slot) (x : NumberedRows). IsFew x (turned turn.Go ss named)) same are is
    (go_law named s.slots can_named)
    (retracted_few live_law few_law s.table named s.slots (subst (λ (x : Store). IsTable x.table) one right)
    (subst (λ (x : Store). length (live_in x) ≤ x.table.max_rows) one few) can_named)

pub retract_live :
    RetractedGo → (stores mid : List Store) (views vs : List View) (states now : List ViewState) (s u v : Store)
    (ns named again : List ℕ) → vs ≡ views → AreLive stores views states → s ≡ get_or stores 0 s → named ≡ ns
    → again ≡ ns → CanRetract ns s.slots
    → ((x : NumberedRows) → Fits x (turned turn.Go (rows_at (rows_in stores) 0) named)
    → EachIsCurrent (tables_in stores) (rows_in stores) x vs states
    → EachIsCurrent (tables_in stores) (rows_in stores)
    (patched x (turned turn.Go (rows_at (rows_in stores) 0) named)) vs now)
    → tables_in mid ≡ tables_in stores → rows_in mid ≡ rows_in stores → u ≡ get_or mid 0 u
    → v ≡ with_slots u (retracted again u.slots) → AreLive (slice_set mid 0 v) views now
retract_live go_law stores mid views vs states now s u v ns named again same are is name other can kept tables rows
    there done =
    let can_named : CanRetract named s.slots = subst (λ (ms : List ℕ). CanRetract ms s.slots) (sym name) can in
    there_live stores mid views vs states now s u v (λ (ss : List Slot). turned turn.Go ss named)
    (λ (ss : List Slot). retracted named ss) same are is (go_law named s.slots can_named) kept tables rows there
    (done ∙ ap (λ (ms : List ℕ). with_slots u (retracted ms u.slots)) (other ∙ sym name))

-- Retracted rows that are restored.

pub can_put_there :
    (stores : List Store) (s : Store) (ns : List ℕ) → s ≡ get_or stores 0 s → 0 < length stores
    → CanPutBack (table_at (tables_in stores) 0) ns (rows_at (rows_in stores) 0) → CanPutBack s.table ns s.slots
can_put_there stores s ns is main can =
    subst (CanPutBack s.table ns) (rows_there stores 0 s is main)
    (subst (λ (t : Table). CanPutBack t ns (rows_at (rows_in stores) 0)) (table_there stores 0 s is main) can)

pub put_back_needs :
    RowsAreLive → FewPutBack → PutBackCome → (stores : List Store) (views vs : List View) (states : List ViewState)
    (s : Store) (ns : List ℕ) → vs ≡ views → AreLive stores views states → s ≡ get_or stores 0 s
    → CanPutBack (table_at (tables_in stores) 0) ns (rows_at (rows_in stores) 0) → IsTable s.table
    → length (live_in s) ≤ s.table.max_rows
    → (x : NumberedRows)
    × (EachIsCurrent (tables_in stores) (rows_in stores) x vs states
    × (Fits x (turned turn.Come (rows_at (rows_in stores) 0) ns)
    × IsFew x (turned turn.Come (rows_at (rows_in stores) 0) ns)))
put_back_needs live_law few_law come_law stores views vs states s ns same are is can right few =
    let can_here : CanPutBack s.table ns s.slots = can_put_there stores s ns is are.these.main can in
    there_needs stores views vs states s (numbered (put_back ns s.slots))
    (λ (ss : List Slot). turned turn.Come ss ns)
    (λ (ss : List Slot) (x : NumberedRows). IsFew x (turned turn.Come ss ns)) same are is
    (come_law s.table ns s.slots can_here)
    (put_back_few live_law few_law s.table ns s.slots right few can_here)

pub put_back_live :
    PutBackCome → (stores mid : List Store) (views vs : List View) (states now : List ViewState) (s u v : Store)
    (ns : List ℕ) → vs ≡ views → AreLive stores views states → s ≡ get_or stores 0 s
    → CanPutBack (table_at (tables_in stores) 0) ns (rows_at (rows_in stores) 0)
    → ((x : NumberedRows) → Fits x (turned turn.Come (rows_at (rows_in stores) 0) ns)
    → EachIsCurrent (tables_in stores) (rows_in stores) x vs states
    → EachIsCurrent (tables_in stores) (rows_in stores)
    (patched x (turned turn.Come (rows_at (rows_in stores) 0) ns)) vs now)
    → tables_in mid ≡ tables_in stores → rows_in mid ≡ rows_in stores → u ≡ get_or mid 0 u
    → v ≡ with_slots u (put_back ns u.slots) → AreLive (slice_set mid 0 v) views now
put_back_live come_law stores mid views vs states now s u v ns same are is can kept tables rows there done =
    let can_here : CanPutBack s.table ns s.slots = can_put_there stores s ns is are.these.main can in
    there_live stores mid views vs states now s u v (λ (ss : List Slot). turned turn.Come ss ns)
    (λ (ss : List Slot). put_back ns ss) same are is (come_law s.table ns s.slots can_here) kept tables rows there done

-- The last rows, which are deleted.

pub take_back_needs :
    RowsAreLive → RevertedGo → (stores : List Store) (views vs : List View) (states : List ViewState)
    (s : Store) (n : ℕ) → vs ≡ views → AreLive stores views states → s ≡ get_or stores 0 s
    → CanRevert n (rows_at (rows_in stores) 0) → IsTable s.table → length (live_in s) ≤ s.table.max_rows
    → (x : NumberedRows)
    × (EachIsCurrent (tables_in stores) (rows_in stores) x vs states
    × (Fits x (turned_last turn.Go (rows_at (rows_in stores) 0) n) × (length x ≤ max_main_rows)))
take_back_needs live_law go_law stores views vs states s n same are is can right few =
    let can_here : CanRevert n s.slots = subst (CanRevert n) (rows_there stores 0 s is are.these.main) can in
    there_needs stores views vs states s (numbered (reverted n s.slots))
    (λ (ss : List Slot). turned_last turn.Go ss n) (λ (ss : List Slot) (x : NumberedRows). length x ≤ max_main_rows)
    same are is (go_law n s.slots can_here) (live_few live_law s.table s.slots right few)

pub take_back_live :
    RevertedGo → (stores mid : List Store) (views vs : List View) (states now : List ViewState) (s u v : Store)
    (n : ℕ) → vs ≡ views → AreLive stores views states → s ≡ get_or stores 0 s
    → CanRevert n (rows_at (rows_in stores) 0)
    → ((x : NumberedRows) → Fits x (turned_last turn.Go (rows_at (rows_in stores) 0) n)
    → EachIsCurrent (tables_in stores) (rows_in stores) x vs states
    → EachIsCurrent (tables_in stores) (rows_in stores)
    (patched x (turned_last turn.Go (rows_at (rows_in stores) 0) n)) vs now)
    → tables_in mid ≡ tables_in stores → rows_in mid ≡ rows_in stores → u ≡ get_or mid 0 u
    → v ≡ with_slots u (reverted n u.slots) → AreLive (slice_set mid 0 v) views now
take_back_live go_law stores mid views vs states now s u v n same are is can kept tables rows there done =
    let can_here : CanRevert n s.slots = subst (CanRevert n) (rows_there stores 0 s is are.these.main) can in
    there_live stores mid views vs states now s u v (λ (ss : List Slot). turned_last turn.Go ss n)
    (λ (ss : List Slot). reverted n ss) same are is (go_law n s.slots can_here) kept tables rows there done
