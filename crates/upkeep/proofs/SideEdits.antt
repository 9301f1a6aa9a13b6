-- A change of the store of a side table, and views that follow it.
use Rattle.std.proofs.Common.{
  ◌≡◌,
  ℕ,
  zero,
  suc,
  ◌+◌,
  ◌*◌,
  ◌<◌,
  ◌≤◌,
  Bool,
  List,
  [],
  ◌∷◌,
  Err,
  Ok,
  ap,
  arith,
  get_or,
  length,
  refl,
  subst,
  sym,
  ◌∙◌,
}
use Rattle.std.specs.Prelude.{count_by, slice_set}
use Rattle.std.proofs.lemmas.List.{length-set}
use Rattle.values.specs.Datum.{Datum}
use Rattle.view_lang.specs.Config.{Table, View}
use Rattle.view_lang.specs.Edits.{TableEdit}
use Rattle.view_lang.specs.Shifts.{NumberedRows}
use Rattle.view_lang.specs.World.{table_at}
use Rattle.row_keys.specs.Numbered.{numbered}
use Rattle.row_keys.specs.Slots.{Slot, live}
use Rattle.row_keys.specs.NumberLaws.{HiddenIsUndone}
use Rattle.row_keys.specs.Store.{Store, with_slots}
use Rattle.row_keys.specs.declared.faults.EditFault.{EditFault}
use Rattle.row_keys.specs.declared.faults.EditFault.TheVariants as fault
use Rattle.upkeep.specs.LiveEdits.{Edited, StaleByMemory, VisitsOf, WentBack}
use Rattle.upkeep.specs.LiveParts.{AreLive, AreOf, LiveParts}
use Rattle.upkeep.specs.Stores.{HaveSameRows, Rows, rows_at, rows_in, tables_in, visits_in}
use Rattle.upkeep.specs.StoreLaws.{
  rows_kept,
  rows_restored,
  rows_set,
  rows_there,
  table_there,
  tables_length,
  tables_set,
}
use Rattle.upkeep.specs.Swaps.{CanSwap, swapped}
use Rattle.row_keys.specs.HiddenChanges.{forgotten, hidden, named_keys, shown}
use Rattle.row_keys.specs.TableChanges.{CanGoBack, IsChangeOf, Makes, back}
use Rattle.upkeep.specs.Touched.{OpensOnce, refers, touched}
use Rattle.upkeep.specs.ViewStates.{
  AreCurrent,
  AreLeftCurrent,
  BecomeCurrent,
  DiffersAt,
  EachIsCurrent,
  IsBefore,
  width_in,
}
use Rattle.row_keys.specs.declared.table_change.TableChange.{TableChange}
use Rattle.upkeep.specs.declared.view_state.Turn.{Turn}
use Rattle.upkeep.specs.declared.view_state.Turn.TheVariants as turn
use Rattle.upkeep.specs.declared.view_state.ViewState.{ViewState}
use Rattle.upkeep.proofs.ChangedStores.{others_same, rows_now, still_of, store_makes}
use Rattle.upkeep.proofs.LiveSides.{each_same, set_main}
use Rattle.upkeep.proofs.MainEdits.{parts}
use Rattle.upkeep.proofs.SwappedRows.{hidden_live, keys_hidden, side_change}

-- store n of these, s, is changed to t
pub record Changed (ss : List Store) (n : ℕ) (s t : Store) : Type 0 where
  pub is : s ≡ get_or ss n s
  pub below : n < length ss
  pub same : t.table ≡ s.table

-- the same of the stores inside tables and views, whose number is known from outside
pub changed_inside :
    {inside seen : LiveParts} {n : ℕ} {s t : Store} → inside ≡ seen → n < length seen.stores
    → s ≡ get_or inside.stores n s → t.table ≡ s.table → Changed inside.stores n s t
changed_inside {n = n} are below is same = record {
  is = is;
  below = subst (λ (p : LiveParts). n < length p.stores) (sym are) below;
  same = same;
}

pub states_many :
    (tables : List Table) (rows : Rows) (main : NumberedRows) (views : List View) (states : List ViewState)
    → EachIsCurrent tables rows main views states → length states ≡ length views
states_many tables rows main [] [] current = refl
states_many tables rows main [] (s ∷ ss) current = absurd current
states_many tables rows main (v ∷ vs) [] current = absurd current
states_many tables rows main (v ∷ vs) (s ∷ ss) current = ap suc (states_many tables rows main vs ss current.1)

pub live_many : (ss : List Store) (views : List View) (states : List ViewState) → AreLive ss views states
    → length states ≡ length views
live_many ss views states are =
    states_many (tables_in ss) (rows_in ss) (numbered (rows_at (rows_in ss) 0)) views states are.current

set_twice : (rows : Rows) (n : ℕ) (a b : List Slot) → slice_set (slice_set rows n a) n b ≡ slice_set rows n b
set_twice [] n a b = refl
set_twice (r ∷ rs) zero a b = refl
set_twice (r ∷ rs) (suc n) a b = ap (λ xs. r ∷ xs) (set_twice rs n a b)

-- what is required where views are to follow a change of the rows of store n
pub record CanBeFollowed
    (ss : List Store) (views : List View) (states : List ViewState) (n : ℕ) (u : Turn) (c : TableChange) :
    Type 0 where
  pub these : AreOf ss views
  pub there : n < length ss
  pub swaps : CanSwap u (table_at (tables_in ss) n) c (rows_at (rows_in ss) n)
  pub current : (old : Rows) × IsBefore n u c old (rows_in ss) × AreCurrent (tables_in ss) old views states

-- stores of which one is changed
module _ {ss : List Store} {n : ℕ} {s t : Store} (changed : Changed ss n s t) where
  pub changed_tables : tables_in (slice_set ss n t) ≡ tables_in ss
  changed_tables = tables_set ss n s t changed.is changed.same

  pub changed_of : {views : List View} → AreOf ss views → AreOf (slice_set ss n t) views
  changed_of {views = views} these = still_of ss (slice_set ss n t) views changed_tables these

  changed_differs : DiffersAt n (rows_in ss) (rows_in (slice_set ss n t))
  changed_differs =
      let was : List Slot = rows_at (rows_in ss) n in
      sym
      (ap (λ (rs : Rows). slice_set rs n was) (rows_set ss n t)
      ∙ rows_restored (rows_in ss) n t.slots (λ _. was) refl)

  is_before : {u : Turn} {c : TableChange} → live s.slots ≡ live (swapped u c t.slots)
      → IsBefore n u c (rows_in ss) (rows_in (slice_set ss n t))
  is_before {u = u} {c = c} same = record {
    differs = changed_differs;
    live_same =
        ap live (rows_there ss n s changed.is changed.below) ∙ same
        ∙ ap (λ (slots : List Slot). live (swapped u c slots)) (sym (rows_now ss n t changed.below));
  }

  -- The change can be turned, where the store's can.
  swaps_there : (u : Turn) (c : TableChange) → CanSwap u s.table c t.slots
      → CanSwap u (table_at (tables_in (slice_set ss n t)) n) c (rows_at (rows_in (slice_set ss n t)) n)
  swaps_there u c can =
      let table : table_at (tables_in (slice_set ss n t)) n ≡ s.table =
      ap (λ (ts : List Table). table_at ts n) changed_tables ∙ table_there ss n s changed.is changed.below in
      subst (λ (slots : List Slot). CanSwap u (table_at (tables_in (slice_set ss n t)) n) c slots)
      (sym (rows_now ss n t changed.below))
      (subst (λ (x : Table). CanSwap u x c t.slots) (sym table) can)

  pub current_before : {views : List View} {states : List ViewState} → AreLive ss views states
      → AreCurrent (tables_in (slice_set ss n t)) (rows_in ss) views states
  current_before {views = views} {states = states} was =
      subst (λ (x : List Table). AreCurrent x (rows_in ss) views states) (sym changed_tables) was.current

  pub can_follow : (u : Turn) (c : TableChange) {views lent : List View} {states : List ViewState} → lent ≡ views
      → AreLive ss views states → CanSwap u s.table c t.slots → live s.slots ≡ live (swapped u c t.slots)
      → CanBeFollowed (slice_set ss n t) lent states n u c
  can_follow u c {views = views} {states = states} are was can same =
      let below = changed.below in
      let many = length-set ss n t in
      subst (λ (vs : List View). CanBeFollowed (slice_set ss n t) vs states n u c) (sym are)
      (record {
        these = changed_of was.these;
        there = omega (arith, below, many);
        swaps = swaps_there u c can;
        current = (rows_in ss, is_before same, current_before was);
      })

  -- Rows are released that weren't live.
  pub shrunk_live : {views : List View} {states : List ViewState} → 0 < n → live t.slots ≡ live s.slots
      → AreLive ss views states → AreLive (slice_set ss n t) views states
  shrunk_live {views = views} {states = states} side same was =
      let equal : live t.slots ≡ live (rows_at (rows_in ss) n) =
      same ∙ ap live (sym (rows_there ss n s changed.is changed.below)) in
      let after : AreCurrent (tables_in ss) (slice_set (rows_in ss) n t.slots) views states =
      each_same (tables_in ss) (rows_in ss) n t.slots views states side equal was.current in
      record {
        these = changed_of was.these;
        current =
            subst (λ (rs : Rows). AreCurrent (tables_in (slice_set ss n t)) rs views states) (sym (rows_set ss n t))
            (subst (λ (x : List Table). AreCurrent x (slice_set (rows_in ss) n t.slots) views states)
            (sym changed_tables) after);
      }

  -- Views followed, for which rows were opened.
  module _ {ss' : List Store} (opened : HaveSameRows (slice_set ss n t) ss') where
    pub opened_live : {views : List View} {states states' : List ViewState} {u : Turn} {c : TableChange}
        → BecomeCurrent n u c (slice_set ss n t) views states states' → live s.slots ≡ live (swapped u c t.slots)
        → AreLive ss views states
        → AreLive ss' views states'
    opened_live {views = views} {states' = states'} made same was =
        let after : AreCurrent (tables_in (slice_set ss n t)) (rows_in (slice_set ss n t)) views states' =
        made (rows_in ss) (is_before same) (current_before was) in
        record {
          these = still_of ss ss' views (opened.tables ∙ changed_tables) was.these;
          current =
              subst (λ (rs : Rows). AreCurrent (tables_in ss') rs views states') (sym opened.rows)
              (subst (λ (x : List Table). AreCurrent x (rows_in (slice_set ss n t)) views states') (sym opened.tables)
              after);
        }

    pub opened_tables : tables_in ss' ≡ tables_in ss
    opened_tables = opened.tables ∙ changed_tables

    pub opened_below : n < length ss'
    opened_below =
        let below = changed.below in
        let one = tables_length ss in
        let two = tables_length ss' in
        let equal = ap length opened_tables in
        omega (arith, below, one, two, equal)

    -- the changed store, as it is afterwards
    module _ {v : Store} (is : v ≡ get_or ss' n v) where
      pub found_slots : v.slots ≡ t.slots
      found_slots =
          sym (rows_there ss' n v is opened_below)
          ∙ ap (λ (rs : Rows). rows_at rs n) opened.rows ∙ rows_now ss n t changed.below

      found_table : v.table ≡ s.table
      found_table =
          sym (table_there ss' n v is opened_below)
          ∙ ap (λ (ts : List Table). table_at ts n) opened_tables
          ∙ table_there ss n s changed.is changed.below

      -- its change can be turned again
      pub swaps_found : (u : Turn) (c : TableChange) → CanSwap u s.table c t.slots → CanSwap u v.table c v.slots
      swaps_found u c can =
          subst (λ (slots : List Slot). CanSwap u v.table c slots) (sym found_slots)
          (subst (λ (x : Table). CanSwap u x c t.slots) (sym found_table) can)

      pub can_restore : (change : TableChange) → CanGoBack s.table change t.slots → CanGoBack v.table change v.slots
      can_restore change can =
          subst (λ (slots : List Slot). CanGoBack v.table change slots) (sym found_slots)
          (subst (λ (x : Table). CanGoBack x change t.slots) (sym found_table) can)

      -- it is changed once more, from the rows of t to others computed from them
      module _ {u : Store} (g : List Slot → List Slot) (done : u ≡ with_slots v (g v.slots)) where
        pub restored_tables : tables_in (slice_set ss' n u) ≡ tables_in ss
        restored_tables = tables_set ss' n v u is (ap (λ (x : Store). x.table) done) ∙ opened_tables

        restored_slots : u.slots ≡ g t.slots
        restored_slots = ap (λ (x : Store). x.slots) done ∙ ap g found_slots

        pub restored_rows : g t.slots ≡ s.slots → rows_in (slice_set ss' n u) ≡ rows_in ss
        restored_rows undone =
            let was : List Slot = rows_at (rows_in ss) n in
            rows_set ss' n u
            ∙ ap (λ (rs : Rows). slice_set rs n u.slots) (opened.rows ∙ rows_set ss n t)
            ∙ ap (slice_set (slice_set (rows_in ss) n t.slots) n)
            (restored_slots ∙ undone ∙ sym (rows_there ss n s changed.is changed.below))
            ∙ rows_restored (rows_in ss) n t.slots (λ _. was) refl

        pub restored : g t.slots ≡ s.slots → HaveSameRows ss (slice_set ss' n u)
        restored undone = record { tables = restored_tables; rows = restored_rows undone }

        pub restored_live : {views : List View} {states states' : List ViewState} {w : Turn} {c : TableChange}
            → AreLeftCurrent n w c (slice_set ss n t) views states states'
            → live s.slots ≡ live (swapped w c t.slots) → g t.slots ≡ s.slots
            → AreLive ss views states → AreLive (slice_set ss' n u) views states'
        restored_live {views = views} {states' = states'} left same undone was =
            let after : AreCurrent (tables_in (slice_set ss n t)) (rows_in ss) views states' =
            left (rows_in ss) (is_before same) (current_before was) in
            record {
              these = still_of ss (slice_set ss' n u) views restored_tables was.these;
              current =
                  subst (λ (rs : Rows). AreCurrent (tables_in (slice_set ss' n u)) rs views states')
                  (sym (restored_rows undone))
                  (subst (λ (x : List Table). AreCurrent x (rows_in ss) views states')
                  (changed_tables ∙ sym restored_tables) after);
            }

        pub shrunk_rows : (f : List Slot → List Slot) → g t.slots ≡ f s.slots
            → rows_in (slice_set ss' n u) ≡ slice_set (rows_in ss) n (f (rows_at (rows_in ss) n))
        shrunk_rows f taken =
            rows_set ss' n u
            ∙ ap (λ (rs : Rows). slice_set rs n u.slots) (opened.rows ∙ rows_set ss n t)
            ∙ set_twice (rows_in ss) n t.slots u.slots
            ∙ ap (slice_set (rows_in ss) n)
            (restored_slots ∙ taken ∙ ap f (sym (rows_there ss n s changed.is changed.below)))

-- what is live where an edit is hidden for a while
pub made_same : HiddenIsUndone → (s t : Store) (n : ℕ) (c : TableChange) → 0 < n → IsChangeOf n c
    → CanGoBack s.table c t.slots → back c t.slots ≡ s.slots → live s.slots ≡ live (swapped turn.Come c t.slots)
made_same law s t n c side kind can undone =
    ap live (sym undone) ∙ sym (hidden_live law s.table c t.slots (side_change n c side kind) can)

-- the remaining rows where hidden rows are removed
pub forgotten_is : (s t : Store) (c : TableChange) → CanSwap turn.Go t.table c t.slots → shown c t.slots ≡ s.slots
    → forgotten c t.slots ≡ back c s.slots
forgotten_is s t c can again = can.1.forgets ∙ ap (back c) (sym can.1.again ∙ again)

pub forgotten_live : (t : Store) (c : TableChange) → CanSwap turn.Go t.table c t.slots
    → live (forgotten c t.slots) ≡ live t.slots
forgotten_live t c can = ap live can.1.forgets ∙ sym can.1.live_same

-- how many rows of the main table were opened

side_visits : (ss : List Store) (n : ℕ) (t : Store) → 0 < n → visits_in (slice_set ss n t) ≡ visits_in ss
side_visits [] n t side = refl
side_visits (s ∷ ss) zero t side = absurd (omega (arith, side))
side_visits (s ∷ ss) (suc n) t side = refl

touched_side : (tables : List Table) (views : List View) (rows : Rows) (n : ℕ) (c : TableChange) → 0 < n
    → touched tables views rows n c
    ≡ count_by (refers (width_in tables) views n (named_keys (table_at tables n) c (rows_at rows n)))
    (live (rows_at rows 0))
touched_side tables views rows zero c side = absurd (omega (arith, side))
touched_side tables views rows (suc n) c side = refl

module _ {ss : List Store} {n : ℕ} {s t : Store} (changed : Changed ss n s t) (c : TableChange)
    (views : List View) (side : 0 < n) where
  -- those that refer to keys of a table whose change was made
  pub opened_after : {ss' : List Store} → HaveSameRows (slice_set ss n t) ss'
      → visits_in ss' ≤ visits_in (slice_set ss n t) + length views
      * count_by (refers (width_in (tables_in (slice_set ss n t))) views n
      (named_keys (table_at (tables_in (slice_set ss n t)) n) c
      (rows_at (rows_in (slice_set ss n t)) n))) (live (rows_at (rows_in (slice_set ss n t)) 0))
      → visits_in ss' ≤ visits_in ss + length views * touched (tables_in ss) views (rows_in ss') n c
  opened_after {ss' = ss'} opened few =
      let P : ℕ → ℕ → Type 0 = λ old k. visits_in ss' ≤ old + length views * k in
      let count : List Table → Rows → ℕ = λ ts rs.
      count_by (refers (width_in ts) views n (named_keys (table_at ts n) c (rows_at rs n))) (live (rows_at rs 0)) in
      subst (P (visits_in ss)) (sym (touched_side (tables_in ss) views (rows_in ss') n c side))
      (subst (λ (rs : Rows). P (visits_in ss) (count (tables_in ss) rs)) (sym opened.rows)
      (subst (λ (ts : List Table). P (visits_in ss) (count ts (rows_in (slice_set ss n t)))) (changed_tables changed)
      (subst (λ old. P old (count (tables_in (slice_set ss n t)) (rows_in (slice_set ss n t))))
      (side_visits ss n t side) few)))

  -- and to those of one whose change is reverted, which is hidden
  pub opened_before : (ss' : List Store) (u : Store) → t.slots ≡ hidden c s.slots
      → visits_in ss' ≤ visits_in (slice_set ss n t) + length views
      * count_by (refers (width_in (tables_in (slice_set ss n t))) views n
      (named_keys (table_at (tables_in (slice_set ss n t)) n) c
      (rows_at (rows_in (slice_set ss n t)) n))) (live (rows_at (rows_in (slice_set ss n t)) 0))
      → visits_in (slice_set ss' n u) ≤ visits_in ss + length views * touched (tables_in ss) views (rows_in ss) n c
  opened_before ss' u is few =
      let P : ℕ → ℕ → ℕ → Type 0 = λ new old k. new ≤ old + length views * k in
      let count : List Table → List Slot → List Slot → ℕ = λ ts rows main.
      count_by (refers (width_in ts) views n (named_keys (table_at ts n) c rows)) (live main) in
      let rows : List Slot = rows_at (rows_in ss) n in
      let keys : (ts : List Table) → named_keys (table_at ts n) c (rows_at (rows_in (slice_set ss n t)) n)
      ≡ named_keys (table_at ts n) c rows = λ ts.
      ap (named_keys (table_at ts n) c)
      (rows_now ss n t changed.below ∙ is ∙ ap (hidden c) (sym (rows_there ss n s changed.is changed.below)))
      ∙ keys_hidden (table_at ts n) c rows in
      let main : rows_at (rows_in (slice_set ss n t)) 0 ≡ rows_at (rows_in ss) 0 =
      ap (λ (rs : Rows). rows_at rs 0) (rows_set ss n t) ∙ set_main (rows_in ss) n t.slots side in
      subst (P (visits_in (slice_set ss' n u)) (visits_in ss))
      (sym (touched_side (tables_in ss) views (rows_in ss) n c side))
      (subst (λ new. P new (visits_in ss) (count (tables_in ss) rows (rows_at (rows_in ss) 0)))
      (sym (side_visits ss' n u side))
      (subst (λ (ms : List Slot). P (visits_in ss') (visits_in ss) (count (tables_in ss) rows ms)) main
      (subst (λ (ks : List Datum). P (visits_in ss') (visits_in ss)
      (count_by (refers (width_in (tables_in ss)) views n ks) (live (rows_at (rows_in (slice_set ss n t)) 0))))
      (keys (tables_in ss))
      (subst (λ (ts : List Table). P (visits_in ss') (visits_in ss)
      (count ts (rows_at (rows_in (slice_set ss n t)) n) (rows_at (rows_in (slice_set ss n t)) 0)))
      (changed_tables changed)
      (subst (λ old. P (visits_in ss') old
      (count (tables_in (slice_set ss n t)) (rows_at (rows_in (slice_set ss n t)) n)
      (rows_at (rows_in (slice_set ss n t)) 0))) (side_visits ss n t side) few)))))

-- what is said of it

pub went_back :
    {X E : Type 0} {x : X} {ss ss' : List Store} {views : List View} {stale stale' : List Bool} {n : ℕ}
    {slots : List Slot} {k : ℕ} → rows_in ss' ≡ slice_set (rows_in ss) n slots → tables_in ss' ≡ tables_in ss
    → stale' ≡ stale → OpensOnce (parts ss views stale) k (parts ss' views stale')
    → WentBack {X = X} {E = E} n slots k (parts ss views stale) (parts ss' views stale') (Ok x)
went_back rows tables stale opens = record {
  rows = rows;
  unchanged = tt;
  tables = tables;
  views = refl;
  stale = stale;
  visits = opens;
}

pub stayed :
    {X E : Type 0} {e : E} {ss ss' : List Store} {views : List View} {stale stale' : List Bool} {n : ℕ}
    {slots : List Slot} {k : ℕ} → HaveSameRows ss ss'
    → WentBack {X = X} {E = E} n slots k (parts ss views stale) (parts ss' views stale') (Err e)
stayed same = record {
  rows = tt;
  unchanged = same.rows;
  tables = same.tables;
  views = refl;
  stale = tt;
  visits = tt;
}

-- An edit of a side table

-- a store whose rows stay
same_rows : {ss : List Store} {n : ℕ} {s t : Store} → Changed ss n s t → t.slots ≡ s.slots
    → rows_in (slice_set ss n t) ≡ rows_in ss
same_rows {ss = ss} {n = n} {s = s} {t = t} changed same =
    rows_set ss n t
    ∙ rows_kept (rows_in ss) n t.slots (same ∙ sym (rows_there ss n s changed.is changed.below))

pub same_live :
    {ss : List Store} {n : ℕ} {s t : Store} {views : List View} {states : List ViewState} → Changed ss n s t
    → t.slots ≡ s.slots → AreLive ss views states → AreLive (slice_set ss n t) views states
same_live {ss = ss} {n = n} {t = t} {views = views} {states = states} changed same was = record {
  these = changed_of changed was.these;
  current =
      subst (λ (rs : Rows). AreCurrent (tables_in (slice_set ss n t)) rs views states) (sym (same_rows changed same))
      (current_before changed was);
}

stale_same : (stale : List Bool) (f : EditFault) → StaleByMemory {X = TableChange} stale (Err f) stale
stale_same stale (fault.Unfit u) = refl
stale_same stale fault.Memory = tt

visits_same : (n : ℕ) (old new : LiveParts) (f : EditFault) → visits_in new.stores ≡ visits_in old.stores
    → VisitsOf n old (Err f) new
visits_same n old new (fault.Unfit u) same = same
visits_same n old new fault.Memory same = tt

module _ {ss : List Store} {n : ℕ} {s t : Store} (changed : Changed ss n s t) {e : TableEdit} {views : List View}
    {stale : List Bool} where
  -- it doesn't fit, or memory for it is refused
  pub edit_refused : {f : EditFault} → 0 < n → Makes s.table e s.slots t.slots (Err f)
      → Edited n e (parts ss views stale) (parts (slice_set ss n t) views stale) (Err f)
  edit_refused {f = f} side makes = record {
    makes = store_makes ss n s t e (Err f) changed.is changed.below makes;
    kind = tt;
    within =
        record {
          others = others_same ss n t changed.below;
          tables = changed_tables changed;
          views = refl;
        };
    stale = stale_same stale f;
    visits = visits_same n (parts ss views stale) (parts (slice_set ss n t) views stale) f (side_visits ss n t side);
  }

  pub edit_made : {ss' : List Store} {stale' : List Bool} {change : TableChange}
      → HaveSameRows (slice_set ss n t) ss' → Makes s.table e s.slots t.slots (Ok change) → IsChangeOf n change
      → stale' ≡ stale
      → OpensOnce (parts ss views stale) (touched (tables_in ss) views (rows_in ss') n change) (parts ss' views stale')
      → Edited n e (parts ss views stale) (parts ss' views stale') (Ok change)
  edit_made {change = change} opened makes kind stale opens =
      let P : Rows → Type 0 = λ rs.
      Makes (table_at (tables_in ss) n) e (rows_at (rows_in ss) n) (rows_at rs n) (Ok change) in
      let Q : Rows → Type 0 = λ rs. rs ≡ slice_set (rows_in ss) n (rows_at rs n) in
      record {
        makes = subst P (sym opened.rows) (store_makes ss n s t e (Ok change) changed.is changed.below makes);
        kind = kind;
        within =
            record {
              others = subst Q (sym opened.rows) (others_same ss n t changed.below);
              tables = opened_tables changed opened;
              views = refl;
            };
        stale = stale;
        visits = opens;
      }

-- Memory for the views is refused: the rows are as they were.
pub edit_restored :
    {ss ss' : List Store} {views : List View} {stale stale' : List Bool} {n : ℕ} {e : TableEdit}
    → HaveSameRows ss ss' → Edited n e (parts ss views stale) (parts ss' views stale') (Err fault.Memory)
edit_restored {ss = ss} {ss' = ss'} {n = n} unchanged =
    let same = ap (λ (rs : Rows). rows_at rs n) unchanged.rows in
    record {
      makes = (tt, same);
      kind = tt;
      within =
          record {
            others = unchanged.rows ∙ sym (rows_kept (rows_in ss) n (rows_at (rows_in ss') n) same);
            tables = unchanged.tables;
            views = refl;
          };
      stale = tt;
      visits = tt;
    }
