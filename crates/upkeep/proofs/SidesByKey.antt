-- Rows of a side table by their keys.
use Rattle.std.proofs.Common.{
  ◌≡◌,
  ℕ,
  ◌+◌,
  ◌<◌,
  ◌||◌,
  ◌&&◌,
  All,
  Bool,
  true,
  false,
  cond,
  List,
  [],
  ◌∷◌,
  ◌++◌,
  Option,
  None,
  Some,
  Vec,
  ap,
  arith,
  get_or,
  length,
  map,
  nat_eq,
  refl,
  subst,
  sym,
  suc,
  take,
  true≢false,
  ◌∙◌,
}
use Rattle.std.specs.BTreeMap.{is_at}
use Rattle.std.specs.Cmp.{Equal-is, eq_by_cmp_equiv}
use Rattle.std.specs.Map.{lookup}
use Rattle.std.specs.Option.{option_map}
use Rattle.std.specs.Prelude.{slice_set}
use Rattle.std.specs.declared.alloc.Global.{Global}
use Rattle.std.proofs.lemmas.Bool.{eqb-true}
use Rattle.std.proofs.lemmas.List.Elements.{All-head, All-tail}
use Rattle.std.proofs.lemmas.List.{map-append, take_more}
use Rattle.values.specs.Datum.{Datum}
use Rattle.values.specs.KeyOrder.{KeysAreOrdered}
use Rattle.values.specs.Keys.{datum_of_key, key_of}
use Rattle.values.specs.declared.key.Key.{Key}
use Rattle.view_lang.proofs.ExactKeys.{key_exact}
use Rattle.view_lang.specs.Cells.{cell_at}
use Rattle.view_lang.specs.Config.{Table, View}
use Rattle.view_lang.specs.Contents.{is_among, same_key}
use Rattle.view_lang.specs.Joined.{Side, joined_row, looked_up, side_of}
use Rattle.view_lang.specs.Shifts.{shift}
use Rattle.view_lang.specs.Views.{passing_row, side_in}
use Rattle.view_lang.specs.World.{contents_at, table_at}
use Rattle.view_lang.specs.declared.view.Lookup.{Lookup}
use Rattle.lookups.proofs.Exactness.{key_total}
use Rattle.lookups.specs.Refers.{key_cmp}
use Rattle.row_keys.specs.Slots.{Slot, contents_of, row_of}
use Rattle.row_keys.specs.Store.{Store}
use Rattle.row_keys.proofs.KeyCells.{keyless}
use Rattle.row_keys.proofs.KeyFacts.{key_datum}
use Rattle.upkeep.specs.Inputs.{side_by}
use Rattle.upkeep.specs.SideRows.{AreOfKeys, RowsByKey, kept_with, known_at, row_in, side_of_rows}
use Rattle.upkeep.specs.StoreLaws.{rows_length, rows_there, table_there}
use Rattle.upkeep.specs.Stores.{Rows, rows_at, rows_in, tables_in, world_of}
use Rattle.upkeep.specs.Swaps.{swapped}
use Rattle.upkeep.specs.Touched.{refers_by}
use Rattle.upkeep.specs.ViewStates.{projected_by, projected_row, reprojected_by, reprojected_change, swapped_at}
use Rattle.row_keys.specs.declared.table_change.TableChange.{TableChange}
use Rattle.upkeep.specs.declared.view_state.Turn.{Turn}
use Rattle.upkeep.proofs.FollowedLookups.{world_here, world_placed}
use Rattle.upkeep.proofs.ReferringRows.{is_key_same, made_alike}
use Rattle.upkeep.proofs.SwappedStores.{kept_store}

-- One key more has its row.

among_more : (d : Datum) (xs : List Datum) (x : Datum) → is_among d (xs ++ x ∷ []) ≡ (is_among d xs || same_key d x)
unfolding is_among
among_more d [] x = either (same_key d x)
  where
    either : (b : Bool) → (b || false) ≡ b
    either true = refl
    either false = refl
among_more d (y ∷ ys) x =
    ap (λ b. same_key d y || b) (among_more d ys x) ∙ turned (same_key d y) (is_among d ys) (same_key d x)
  where
    turned : (a b c : Bool) → (a || (b || c)) ≡ ((a || b) || c)
    turned true b c = refl
    turned false b c = refl

apart_among : (a b : Bool) → (a || b) ≡ true → b ≡ false → a ≡ true
apart_among true b h other = refl
apart_among false b h other = absurd (true≢false (sym h ∙ other))

none_among : (d : Datum) (keys : List Key) → key_of d ≡ None → is_among d (map datum_of_key keys) ≡ false
unfolding is_among
none_among d [] none = refl
none_among d (k ∷ ks) none =
    ap (λ b. b || is_among d (map datum_of_key ks)) (keyless d k none) ∙ none_among d ks none

module _ (law : KeysAreOrdered) (side : Side) (old new : RowsByKey) (k : Key) (row : Option (Vec Datum Global))
    (is : option_map (λ (r : Vec Datum Global). r.items) row ≡ side (datum_of_key k))
    (updates : (q : Key) → lookup (is_at (key_cmp q)) new
    ≡ cond (is_at (key_cmp k) q) (Some row) (lookup (is_at (key_cmp q)) old)) where
  row_there : (o : Option (Vec Datum Global)) → row_in (Some o) ≡ option_map (λ (r : Vec Datum Global). r.items) o
  row_there None = refl
  row_there (Some r) = refl

  by_key : (d : Datum) (keys : List Datum) (q : Key) → key_of d ≡ Some q
      → (is_among d keys ≡ true → side_of_rows old d ≡ side d) → (is_among d keys || same_key d (datum_of_key k)) ≡ true
      → (b : Bool) → is_at (key_cmp k) q ≡ b
      → row_in (cond b (Some row) (lookup (is_at (key_cmp q)) old)) ≡ side d
  by_key d keys q keyed so_far among true here =
      let same : k ≡ q = key_exact k q ((Equal-is (key_cmp k q)).0 here) in
      row_there row ∙ is ∙ ap (λ x. side (datum_of_key x)) same ∙ ap side (key_datum d q keyed)
  by_key d keys q keyed so_far among false here =
      let other : same_key d (datum_of_key k) ≡ false =
      sym (is_key_same law d k (Some q) keyed) ∙ sym ((eq_by_cmp_equiv key_total).symm k q) ∙ here in
      ap (λ o. row_in (known_at old o)) (sym keyed)
      ∙ so_far (apart_among (is_among d keys) (same_key d (datum_of_key k)) among other)

  by_any : (d : Datum) (keys : List Key) (o : Option Key) → key_of d ≡ o
      → (is_among d (map datum_of_key keys) ≡ true → side_of_rows old d ≡ side d)
      → (is_among d (map datum_of_key keys) || same_key d (datum_of_key k)) ≡ true
      → row_in (known_at new o) ≡ side d
  by_any d keys None keyed so_far among =
      absurd (true≢false (sym among ∙ none_either))
    where
      none_either : (is_among d (map datum_of_key keys) || same_key d (datum_of_key k)) ≡ false
      none_either =
          ap (λ b. b || same_key d (datum_of_key k)) (none_among d keys keyed) ∙ keyless d k keyed
  by_any d keys (Some q) keyed so_far among =
      ap row_in (updates q) ∙ by_key d (map datum_of_key keys) q keyed so_far among (is_at (key_cmp k) q) refl

  pub one_more : (keys : List Key) (i : ℕ) → i < length keys → k ≡ get_or keys i k
      → AreOfKeys (map datum_of_key (take i keys)) side old → AreOfKeys (map datum_of_key (take (i + 1) keys)) side new
  one_more keys i below here so_far d among =
      let more : map datum_of_key (take (i + 1) keys) ≡ map datum_of_key (take i keys) ++ datum_of_key k ∷ [] =
      ap (map datum_of_key) (take_more keys i k below)
      ∙ map-append datum_of_key (take i keys) (get_or keys i k ∷ [])
      ∙ ap (λ x. map datum_of_key (take i keys) ++ datum_of_key x ∷ []) (sym here) in
      by_any d (take i keys) (key_of d) refl (so_far d)
      (sym (among_more d (map datum_of_key (take i keys)) (datum_of_key k)) ∙ sym (ap (is_among d) more) ∙ among)

-- the projected row of a row, with what is looked up for it

made_with : (v : View) (row : List Datum) (side : Side) (found : Option (List Datum))
    → found ≡ looked_up v.lookup side row → kept_with v row found ≡ passing_row v side row
unfolding joined_row
made_with v row side found is = ap (kept_with v row) is

made_of : (v : View) (given row : List Datum) (side : Side) (found made : Option (List Datum)) → given ≡ row
    → found ≡ looked_up v.lookup side given → made ≡ kept_with v given found
    → projected_by v.outputs made ≡ projected_row v side row
made_of v given row side found made here looked is =
    ap (projected_by v.outputs) (is ∙ made_with v given side found looked) ∙ ap (projected_row v side) here

pub remade_one :
    (v : View) (n : ℕ) (given row : List Datum) (before after : Side) (was_found is_found was_made is_made : Option (List Datum))
    → given ≡ row → was_found ≡ looked_up v.lookup before given → is_found ≡ looked_up v.lookup after given
    → was_made ≡ kept_with v given was_found → is_made ≡ kept_with v given is_found
    → shift n (projected_by v.outputs was_made) (projected_by v.outputs is_made) ∷ []
    ≡ shift n (projected_row v before row) (projected_row v after row) ∷ []
remade_one v n given row before after was_found is_found was_made is_made here looked_before looked_after was is =
    ap (λ x. shift n x (projected_by v.outputs is_made) ∷ [])
    (made_of v given row before was_found was_made here looked_before was)
    ∙ ap (λ x. shift n (projected_row v before row) x ∷ [])
    (made_of v given row after is_found is_made here looked_after is)

-- A row that refers to one of some keys looks up the same in a side table and in its rows under these keys.

both_true : (a b : Bool) → (a && b) ≡ true → (a ≡ true) × (b ≡ true)
both_true true b h = (refl, h)
both_true false b h = absurd (true≢false (sym h))

looked_alike : (o : Option Lookup) (n : ℕ) (keys row : List Datum) (rows : RowsByKey) (tables : List Table)
    (all : Rows) (slots : List Slot) → contents_at (world_of all) n ≡ contents_of slots
    → refers_by o n keys row ≡ true → AreOfKeys keys (side_of (table_at tables n) (contents_of slots)) rows
    → looked_up o (side_in tables (world_of all) o) row ≡ looked_up o (side_of_rows rows) row
looked_alike None n keys row rows tables all slots here refers are = absurd (true≢false (sym refers))
looked_alike (Some l) n keys row rows tables all slots here refers are =
    let both = both_true (nat_eq (suc l.side) n) (is_among (cell_at row l.on) keys) refers in
    let P : ℕ → Type 0 = λ m. side_of (table_at tables m) (contents_at (world_of all) m) (cell_at row l.on)
    ≡ side_of_rows rows (cell_at row l.on) in
    subst P (sym (eqb-true (suc l.side) n both.0))
    (ap (λ c. side_of (table_at tables n) c (cell_at row l.on)) here ∙ sym (are (cell_at row l.on) both.1))

module _ (tables : List Table) (n : ℕ) (u : Turn) (c : TableChange) (rows : Rows) (v : View) (keys : List Datum)
    (before after : RowsByKey) (below : n < length rows)
    (are_before : AreOfKeys keys (side_of (table_at tables n) (contents_of (swapped u c (rows_at rows n)))) before)
    (are_after : AreOfKeys keys (side_of (table_at tables n) (contents_of (rows_at rows n))) after) where
  one_alike : (m : ℕ) → refers_by v.lookup n keys (row_of (rows_at rows 0) m) ≡ true
      → shift m (projected_row v (side_by tables (swapped_at n u c rows) v) (row_of (rows_at rows 0) m))
      (projected_row v (side_by tables rows v) (row_of (rows_at rows 0) m))
      ≡ shift m (projected_row v (side_of_rows before) (row_of (rows_at rows 0) m))
      (projected_row v (side_of_rows after) (row_of (rows_at rows 0) m))
  one_alike m refers =
      let row : List Datum = row_of (rows_at rows 0) m in
      let was = made_alike v (side_by tables (swapped_at n u c rows) v) (side_of_rows before) row
      (looked_alike v.lookup n keys row before tables (swapped_at n u c rows) (swapped u c (rows_at rows n))
      (world_placed rows n (swapped u c (rows_at rows n)) below) refers are_before) in
      let is = made_alike v (side_by tables rows v) (side_of_rows after) row
      (looked_alike v.lookup n keys row after tables rows (rows_at rows n) (world_here rows n below) refers
      are_after) in
      ap (λ x. shift m x (projected_row v (side_by tables rows v) row)) was
      ∙ ap (λ x. shift m (projected_row v (side_of_rows before) row) x) is

  pub changes_alike : (ns : List ℕ) → All (λ m. refers_by v.lookup n keys (row_of (rows_at rows 0) m) ≡ true) ns
      → reprojected_change tables rows v n u c ns
      ≡ reprojected_by (projected_row v (side_of_rows before)) (projected_row v (side_of_rows after)) (rows_at rows 0) ns
  changes_alike [] refer = refl
  changes_alike (m ∷ ms) refer =
      ap (λ s. s ∷ reprojected_change tables rows v n u c ms)
      (one_alike m (All-head (λ k. refers_by v.lookup n keys (row_of (rows_at rows 0) k) ≡ true) m ms refer))
      ∙ ap (λ ss. shift m (projected_row v (side_of_rows before) (row_of (rows_at rows 0) m))
      (projected_row v (side_of_rows after) (row_of (rows_at rows 0) m)) ∷ ss)
      (changes_alike ms (All-tail (λ k. refers_by v.lookup n keys (row_of (rows_at rows 0) k) ≡ true) m ms refer))

-- The same of the stores in which the side table lies, which are what they were.
pub changes_in :
    (stores : List Store) (n : ℕ) (u : Turn) (c : TableChange) (v : View) (keys : List Datum) (before after : RowsByKey)
    (s t : Store) (ns : List ℕ) → s ≡ get_or stores n s → n < length stores → t ≡ s
    → AreOfKeys keys (side_of s.table (contents_of (swapped u c s.slots))) before
    → AreOfKeys keys (side_of s.table (contents_of s.slots)) after
    → All (λ m. refers_by v.lookup n keys (row_of (rows_at (rows_in stores) 0) m) ≡ true) ns
    → reprojected_change (tables_in stores) (rows_in stores) v n u c ns
    ≡ reprojected_by (projected_row v (side_of_rows before)) (projected_row v (side_of_rows after))
    (rows_at (rows_in (slice_set stores n t)) 0) ns
changes_in stores n u c v keys before after s t ns is below same are_before are_after refer =
    let table : table_at (tables_in stores) n ≡ s.table = table_there stores n s is below in
    let slots : rows_at (rows_in stores) n ≡ s.slots = rows_there stores n s is below in
    let P : Table → List Slot → Type 0 = λ x ss. AreOfKeys keys (side_of x (contents_of (swapped u c ss))) before in
    let Q : Table → List Slot → Type 0 = λ x ss. AreOfKeys keys (side_of x (contents_of ss)) after in
    let many = rows_length stores in
    let inside : n < length (rows_in stores) = omega (arith, below, many) in
    changes_alike (tables_in stores) n u c (rows_in stores) v keys before after inside
    (subst (λ (x : Table). P x (rows_at (rows_in stores) n)) (sym table) (subst (P s.table) (sym slots) are_before))
    (subst (λ (x : Table). Q x (rows_at (rows_in stores) n)) (sym table) (subst (Q s.table) (sym slots) are_after))
    ns refer
    ∙ ap (λ (ss : List Store). reprojected_by (projected_row v (side_of_rows before)) (projected_row v (side_of_rows after))
    (rows_at (rows_in ss) 0) ns) (sym (kept_store stores n s t is same))
