-- Views of a main table whose rows are inserted and deleted.
use Rattle.std.proofs.Common.{
  ◌≡◌,
  ℕ,
  zero,
  suc,
  ◌+◌,
  ◌-◌,
  ◌<◌,
  ◌≤◌,
  All,
  Bool,
  true,
  false,
  if◌then◌else◌,
  List,
  [],
  ◌∷◌,
  Option,
  None,
  Some,
  get_or,
  length,
  map,
  refl,
  ap,
  sym,
  subst,
  ◌∙◌,
  arith,
}
use Rattle.std.specs.Prelude.{slice_index_or, slice_set}
use Rattle.std.specs.List.{range_with_len}
use Rattle.std.proofs.lemmas.List.{length-append, length-map}
use Rattle.std.proofs.lemmas.List.Elements.{All-cons}
use Rattle.std.proofs.lemmas.Bool.{true≢false}
use Rattle.std.proofs.lemmas.Option.{none-some}
use Rattle.values.specs.Datum.{Datum}
use Rattle.values.specs.Limits.{max_main_rows}
use Rattle.schema_meta.specs.Rows.{rows_from}
use Rattle.view_lang.specs.Config.{Table, View}
use Rattle.view_lang.specs.Joined.{Side}
use Rattle.view_lang.specs.Shifts.{Fits, IsFew, NumberedRows, Shift, patched}
use Rattle.view_lang.specs.TableRules.{IsTable}
use Rattle.view_lang.specs.Views.{side_in}
use Rattle.view_lang.specs.declared.view.Lookup.{Lookup}
use Rattle.row_keys.specs.Numbered.{come, numbered}
use Rattle.row_keys.specs.NumberLaws.{FewPutBack, FewRetracted, Leads, NewCome, RowsAreLive, with_new}
use Rattle.row_keys.specs.Slots.{AreRetracted, CanPutBack, CanRetract, CanRevert, IsLiveAt, IsThere, Slot, live, marked, new_slot, put_back, slot}
use Rattle.row_keys.specs.Store.{Store}
use Rattle.upkeep.specs.Inputs.{side_by}
use Rattle.upkeep.specs.LiveParts.{AreLive, AreOf}
use Rattle.upkeep.specs.Stores.{Rows, rows_in, tables_in, world_of}
use Rattle.upkeep.specs.StoreLaws.{rows_set, tables_set}
use Rattle.upkeep.specs.ViewStates.{AreCurrent, EachIsCurrent, IsCurrent, turned, turned_last}
use Rattle.upkeep.specs.declared.view_state.Turn.{Turn}
use Rattle.upkeep.specs.declared.view_state.Turn.TheVariants as turn
use Rattle.upkeep.specs.declared.view_state.ViewState.{ViewState}
use Rattle.upkeep.proofs.ChangedStores.{rows_now, still_of}

-- The tables that views look up aren't the main table.

side_in_kept : (tables : List Table) (rows : Rows) (slots : List Slot) (l : Option Lookup)
    → side_in tables (world_of (slice_set rows 0 slots)) l ≡ side_in tables (world_of rows) l
side_in_kept tables [] slots l = refl
side_in_kept tables (r ∷ rs) slots None = refl
side_in_kept tables (r ∷ rs) slots (Some l) = refl

pub side_kept : (tables : List Table) (rows : Rows) (slots : List Slot) (v : View)
    → side_by tables (slice_set rows 0 slots) v ≡ side_by tables rows v
side_kept tables rows slots v = side_in_kept tables rows slots v.lookup

pub each_kept : (tables : List Table) (rows : Rows) (slots : List Slot) (now : NumberedRows) (views : List View)
    (states : List ViewState) → EachIsCurrent tables rows now views states
    → EachIsCurrent tables (slice_set rows 0 slots) now views states
each_kept tables rows slots now [] [] h = h
each_kept tables rows slots now [] (s ∷ ss) h = absurd h
each_kept tables rows slots now (v ∷ vs) [] h = absurd h
each_kept tables rows slots now (v ∷ vs) (s ∷ ss) h = (
  subst (λ (side : Side). IsCurrent tables v side s now) (sym (side_kept tables rows slots v)) h.0,
  each_kept tables rows slots now vs ss h.1,
)

-- another store of the main table
pub each_set :
    (stores : List Store) (s t : Store) (now : NumberedRows) (views : List View) (states : List ViewState)
    → s ≡ get_or stores 0 s → t.table ≡ s.table
    → EachIsCurrent (tables_in stores) (rows_in stores) now views states
    → EachIsCurrent (tables_in (slice_set stores 0 t)) (rows_in (slice_set stores 0 t)) now views states
each_set stores s t now views states is same h =
    let P : List Table → Type 0 = λ ts. EachIsCurrent ts (rows_in (slice_set stores 0 t)) now views states in
    let Q : Rows → Type 0 = λ rs. EachIsCurrent (tables_in stores) rs now views states in
    subst P (sym (tables_set stores 0 s t is same))
    (subst Q (sym (rows_set stores 0 t)) (each_kept (tables_in stores) (rows_in stores) t.slots now views states h))

pub of_set :
    (stores : List Store) (s t : Store) (views : List View) → s ≡ get_or stores 0 s → t.table ≡ s.table
    → AreOf stores views → AreOf (slice_set stores 0 t) views
of_set stores s t views is same are =
    still_of stores (slice_set stores 0 t) views (tables_set stores 0 s t is same) are

-- and with other rows
pub live_set :
    (stores : List Store) (s t : Store) (views : List View) (states : List ViewState) → s ≡ get_or stores 0 s
    → t.table ≡ s.table → AreOf stores views
    → EachIsCurrent (tables_in stores) (rows_in stores) (numbered t.slots) views states
    → AreLive (slice_set stores 0 t) views states
live_set stores s t views states is same are h = record {
  these = of_set stores s t views is same are;
  current =
      subst (λ (ss : List Slot). EachIsCurrent (tables_in (slice_set stores 0 t)) (rows_in (slice_set stores 0 t))
      (numbered ss) views states) (sym (rows_now stores 0 t are.main))
      (each_set stores s t (numbered t.slots) views states is same h);
}

-- stores with the same tables and rows
pub live_same :
    (stores new : List Store) (views : List View) (states : List ViewState) → tables_in new ≡ tables_in stores
    → rows_in new ≡ rows_in stores → AreLive stores views states → AreLive new views states
live_same stores new views states tables rows are =
    let P : List Table → Type 0 = λ ts. AreCurrent ts (rows_in new) views states in
    let Q : Rows → Type 0 = λ rs. AreCurrent (tables_in stores) rs views states in
    record {
      these = still_of stores new views tables are.these;
      current = subst P (sym tables) (subst Q (sym rows) are.current);
    }

-- What is needed to follow a change, and what it gives.

pub needs :
    (tables : List Table) (rows : Rows) (views vs : List View) (states : List ViewState) (old new : NumberedRows)
    (change : List Shift) (Few : NumberedRows → Type 0) → vs ≡ views → EachIsCurrent tables rows old views states
    → Leads old change new → Few old
    → (x : NumberedRows) × (EachIsCurrent tables rows x vs states × (Fits x change × Few x))
needs tables rows views vs states old new change Few same current leads few = (
  old,
  (subst (λ (ws : List View). EachIsCurrent tables rows old ws states) (sym same) current, (leads.fits, few)),
)

pub gives :
    (tables : List Table) (rows : Rows) (views vs : List View) (states now : List ViewState) (old new : NumberedRows)
    (change : List Shift) → vs ≡ views → EachIsCurrent tables rows old views states → Leads old change new
    → ((x : NumberedRows) → Fits x change → EachIsCurrent tables rows x vs states
    → EachIsCurrent tables rows (patched x change) vs now)
    → EachIsCurrent tables rows new views now
gives tables rows views vs states now old new change same current leads kept =
    let before : EachIsCurrent tables rows old vs states =
    subst (λ (ws : List View). EachIsCurrent tables rows old ws states) (sym same) current in
    let after : EachIsCurrent tables rows (patched old change) vs now = kept old leads.fits before in
    let Q : NumberedRows → Type 0 = λ x. EachIsCurrent tables rows x views now in
    subst Q leads.patched_is (subst (λ (ws : List View). EachIsCurrent tables rows (patched old change) ws now) same
    after)

-- Few rows.

pub numbered_length : RowsAreLive → (slots : List Slot) → length (numbered slots) ≡ length (live slots)
numbered_length law slots =
    sym (length-map (numbered slots) (λ (e : ℕ × List Datum). e.1)) ∙ ap length (law slots)

pub live_few :
    RowsAreLive → (t : Table) (slots : List Slot) → IsTable t → length (live slots) ≤ t.max_rows
    → length (numbered slots) ≤ max_main_rows
live_few law t slots right few =
    let same : length (numbered slots) ≡ length (live slots) = numbered_length law slots in
    let most : t.max_rows ≤ max_main_rows = right.few in
    omega (arith, same, most, few)

pub few_rows :
    RowsAreLive → (t : Table) (slots : List Slot) (change : List Shift) → IsTable t → length (live slots) ≤ t.max_rows
    → length change ≤ max_main_rows → IsFew (numbered slots) change
few_rows law t slots change right few short =
    let same : length (numbered slots) ≡ length (live slots) = numbered_length law slots in
    let most : t.max_rows ≤ max_main_rows = right.few in
    omega (arith, same, most, few, short)

pub turned_length : (t : Turn) (slots : List Slot) (ns : List ℕ) → length (turned t slots ns) ≡ length ns
turned_length turn.Come slots ns = length-map ns _
turned_length turn.Go slots ns = length-map ns _

-- The rows that a batch inserts.

live_shape : (b : Bool) (row : List Datum) (xs ys : List (List Datum)) (n : ℕ) → length xs ≡ length ys + n
    → length (if b then row ∷ xs else xs) ≡ length (if b then row ∷ ys else ys) + n
live_shape true row xs ys n h = omega (arith, h)
live_shape false row xs ys n h = h

live_all : (rows : List (List Datum)) → length (live (map new_slot rows)) ≡ length rows
unfolding live
live_all [] = refl
live_all (r ∷ rs) = ap suc (live_all rs)

live_new : (slots : List Slot) (rows : List (List Datum))
    → length (live (with_new slots rows)) ≡ length (live slots) + length rows
unfolding live
live_new [] rows = let all = live_all rows in omega (arith, all)
live_new (s ∷ ss) rows =
    live_shape s.live s.row (live (with_new ss rows)) (live ss) (length rows) (live_new ss rows)

length_from : (columns : List (List Datum)) (i n : ℕ) → length (rows_from columns i n) ≡ n
unfolding rows_from
length_from columns i zero = refl
length_from columns i (suc n) = ap suc (length_from columns (i + 1) n)

pub batch_length : (columns : List (List Datum)) (n : ℕ) → length (rows_from columns 0 n) ≡ n
batch_length columns n = length_from columns 0 n

new_length : (slots : List Slot) (rows : List (List Datum)) → length (with_new slots rows) ≡ length slots + length rows
new_length slots rows =
    let joined : length (with_new slots rows) ≡ length slots + length (map new_slot rows) =
    length-append slots (map new_slot rows) in
    let long : length (map new_slot rows) ≡ length rows = length-map rows new_slot in
    omega (arith, joined, long)

pub new_lead :
    NewCome → (slots new : List Slot) (rows : List (List Datum)) (n : ℕ) → new ≡ with_new slots rows → length rows ≡ n
    → Leads (numbered slots) (turned_last turn.Come new n) (numbered new)
new_lead law slots new rows n is long =
    let many : length (with_new slots rows) ≡ length slots + length rows = new_length slots rows in
    let first : length (with_new slots rows) - n ≡ length slots = omega (arith, many, long) in
    let P : ℕ → Type 0 = λ k. Leads (numbered slots) (come (with_new slots rows) (range_with_len k (length rows)))
    (numbered (with_new slots rows)) in
    let Q : ℕ → Type 0 = λ k. Leads (numbered slots) (come (with_new slots rows) (range_with_len (length (with_new slots
    rows) - n) k)) (numbered (with_new slots rows)) in
    let R : List Slot → Type 0 = λ ss. Leads (numbered slots) (turned_last turn.Come ss n) (numbered ss) in
    subst R (sym is) (subst Q long (subst P (sym first) (law slots rows)))

pub new_few :
    RowsAreLive → (t : Table) (slots new : List Slot) (rows : List (List Datum)) → new ≡ with_new slots rows
    → IsTable t → length (live new) ≤ t.max_rows → length (numbered slots) ≤ max_main_rows
new_few law t slots new rows is right few =
    let after : length (live new) ≡ length (live slots) + length rows =
    ap (λ (ss : List Slot). length (live ss)) is ∙ live_new slots rows in
    live_few law t slots right (omega (arith, after, few))

-- the last n rows of a table
pub last_there :
    (slots new : List Slot) (rows : List (List Datum)) (n : ℕ) → new ≡ with_new slots rows → length rows ≡ n
    → n ≤ length new
last_there slots new rows n is long =
    let many : length new ≡ length slots + length rows = ap length is ∙ new_length slots rows in
    omega (arith, many, long)

-- The rows that are deleted or inserted by their numbers exist.

there_below : (slots : List Slot) (n : ℕ) (b : Bool) → IsThere slots n b → n < length slots
there_below [] n b there = absurd (none-some (slot there.0 b) there.1)
there_below (s ∷ ss) zero b there = omega arith
there_below (s ∷ ss) (suc n) b there = let below = there_below ss n b there in omega (arith, below)

length_marked : (b : Bool) (slots : List Slot) (n : ℕ) → length (marked b slots n) ≡ length slots
length_marked b [] n = refl
length_marked b (s ∷ ss) zero = refl
length_marked b (s ∷ ss) (suc n) = ap suc (length_marked b ss n)

length_put_back : (ns : List ℕ) (slots : List Slot) → length (put_back ns slots) ≡ length slots
unfolding put_back
length_put_back [] slots = refl
length_put_back (n ∷ ns) slots = length_marked true (put_back ns slots) n ∙ length_put_back ns slots

below_after : (b : Bool) (slots : List Slot) (n m : ℕ) → m < length (marked b slots n) → m < length slots
below_after b slots n m h = let same = length_marked b slots n in omega (arith, h, same)

weaker : (P Q : ℕ → Type 0) (ns : List ℕ) → ((n : ℕ) → P n → Q n) → All P ns → All Q ns
weaker P Q ns f h = λ k d below. f (slice_index_or ns k d) (h k d below)

pub retracted_there : (ns : List ℕ) (slots : List Slot) → CanRetract ns slots → All (λ n. n < length slots) ns
unfolding CanRetract
retracted_there [] slots can = λ k d below. absurd (omega (arith, below))
retracted_there (n ∷ ns) slots can =
    All-cons (λ m. m < length slots) n ns (there_below slots n true can.0)
    (weaker (λ m. m < length (marked false slots n)) (λ m. m < length slots) ns (below_after false slots n)
    (retracted_there ns (marked false slots n) can.1))

-- Rows that are retracted are live, each of them before any of them is.

abbrev slot_live : Option Slot → Bool
slot_live None = false
slot_live (Some s) = s.live

live_there : (slots : List Slot) (n : ℕ) → IsThere slots n true → IsLiveAt slots n
live_there [] n there = absurd (none-some (slot there.0 true) there.1)
live_there (s ∷ ss) zero there = ap slot_live there.1
live_there (s ∷ ss) (suc n) there = live_there ss n there

live_before : (slots : List Slot) (n m : ℕ) → IsLiveAt (marked false slots n) m → IsLiveAt slots m
live_before [] n m h = h
live_before (s ∷ ss) zero zero h = absurd (true≢false (sym h))
live_before (s ∷ ss) zero (suc m) h = h
live_before (s ∷ ss) (suc n) zero h = h
live_before (s ∷ ss) (suc n) (suc m) h = live_before ss n m h

pub retracted_live : (ns : List ℕ) (slots : List Slot) → CanRetract ns slots → All (IsLiveAt slots) ns
unfolding CanRetract
retracted_live [] slots can = λ k d below. absurd (omega (arith, below))
retracted_live (n ∷ ns) slots can =
    All-cons (IsLiveAt slots) n ns (live_there slots n can.0)
    (weaker (IsLiveAt (marked false slots n)) (IsLiveAt slots) ns (live_before slots n)
    (retracted_live ns (marked false slots n) can.1))

are_there : (t : Table) (ns : List ℕ) (slots : List Slot) → AreRetracted t ns slots → All (λ n. n < length slots) ns
unfolding AreRetracted
are_there t [] slots can = λ k d below. absurd (omega (arith, below))
are_there t (n ∷ ns) slots can =
    let here : n < length (put_back ns slots) = there_below (put_back ns slots) n false can.1 in
    let same : length (put_back ns slots) ≡ length slots = length_put_back ns slots in
    All-cons (λ m. m < length slots) n ns (omega (arith, here, same)) (are_there t ns slots can.0)

pub put_back_there : (t : Table) (ns : List ℕ) (slots : List Slot) → CanPutBack t ns slots
    → All (λ n. n < length slots) ns
unfolding CanPutBack
put_back_there t ns slots can = are_there t ns slots can.0

room_after : (t : Table) (ns : List ℕ) (slots : List Slot) → CanPutBack t ns slots
    → length (live (put_back ns slots)) ≤ t.max_rows
unfolding CanPutBack
room_after t ns slots can = can.1

pub retracted_few :
    RowsAreLive → FewRetracted → (t : Table) (ns : List ℕ) (slots : List Slot) → IsTable t
    → length (live slots) ≤ t.max_rows → CanRetract ns slots → IsFew (numbered slots) (turned turn.Go slots ns)
retracted_few law fewer t ns slots right few can =
    let short : length ns ≤ length (live slots) = fewer ns slots can in
    let same : length (turned turn.Go slots ns) ≡ length ns = turned_length turn.Go slots ns in
    let most : t.max_rows ≤ max_main_rows = right.few in
    few_rows law t slots (turned turn.Go slots ns) right few (omega (arith, short, same, most, few))

pub put_back_few :
    RowsAreLive → FewPutBack → (t : Table) (ns : List ℕ) (slots : List Slot) → IsTable t
    → length (live slots) ≤ t.max_rows → CanPutBack t ns slots → IsFew (numbered slots) (turned turn.Come slots ns)
put_back_few law fewer t ns slots right few can =
    let short : length ns ≤ length (live (put_back ns slots)) = fewer t ns slots can in
    let room : length (live (put_back ns slots)) ≤ t.max_rows = room_after t ns slots can in
    let same : length (turned turn.Come slots ns) ≡ length ns = turned_length turn.Come slots ns in
    let most : t.max_rows ≤ max_main_rows = right.few in
    few_rows law t slots (turned turn.Come slots ns) right few (omega (arith, short, same, most, room))

pub taken_there : (n : ℕ) (slots : List Slot) → CanRevert n slots → n ≤ length slots
unfolding CanRevert
taken_there n slots can = can
