-- A view that looks up a table whose rows change, updated by the rows that refer to the keys of the change.
use Rattle.std.proofs.Common.{
  ◌≡◌,
  ◌≤◌,
  ◌||◌,
  ◌&&◌,
  All,
  Err,
  Ok,
  Result,
  not,
  ℕ,
  zero,
  suc,
  ◌<◌,
  length,
  Bool,
  true,
  false,
  List,
  [],
  ◌∷◌,
  Option,
  None,
  Some,
  ap,
  arith,
  map,
  refl,
  subst,
  sym,
  ◌∙◌,
}
use Rattle.std.specs.List.{list_any}
use Rattle.std.specs.List.Sorted.{IsStrictlySortedBy}
use Rattle.std.specs.Ordering.{nat_cmp}
use Rattle.std.specs.Prelude.{OnOk, count_by, slice_set}
use Rattle.std.proofs.lemmas.List.{length-map}
use Rattle.values.specs.KeyOrder.{KeysAreOrdered}
use Rattle.values.specs.Keys.{datum_of_key}
use Rattle.values.specs.declared.key.Key.{Key}
use Rattle.std.proofs.lemmas.Bool.{eqb-true, true≢false}
use Rattle.values.specs.Datum.{Datum}
use Rattle.view_lang.specs.Config.{Table, View}
use Rattle.view_lang.specs.Contents.{is_among}
use Rattle.view_lang.specs.Images.{ImageAt, ImageFits, image}
use Rattle.view_lang.specs.Joined.{side_of}
use Rattle.view_lang.specs.Shifts.{Fits, IsFew, NumberedRows, patched, shift}
use Rattle.view_lang.specs.ConfigRules.{IsLookup}
use Rattle.view_lang.specs.TableRules.{IsSideTable, IsTable}
use Rattle.lookups.specs.Keeping.{Keeps as KeepsReferrers}
use Rattle.lookups.specs.Refers.{RowsByKey, is_among as is_numbered, refers as refers_to}
use Rattle.view_lang.specs.Views.{side_in}
use Rattle.view_lang.specs.World.{contents_at, table_at}
use Rattle.view_lang.specs.declared.view.Lookup.{Lookup}
use Rattle.row_keys.specs.NumberLaws.{
  FewRetracted,
  Leads,
  LiveCanGo,
  NumbersAscend,
  RowsAreAtNumbers,
  RowsAreLive,
}
use Rattle.row_keys.specs.Numbered.{numbered}
use Rattle.row_keys.specs.Slots.{CanRetract, Slot, contents_of, live, row_of}
use Rattle.sub_groups.specs.Moved.{is_moved}
use Rattle.upkeep.specs.Inputs.{side_by}
use Rattle.upkeep.specs.Stores.{Rows, rows_at, world_of}
use Rattle.row_keys.specs.HiddenChanges.{named_keys}
use Rattle.upkeep.specs.Swaps.{swapped}
use Rattle.upkeep.specs.Touched.{opened_for, refers_by}
use Rattle.upkeep.specs.ViewStates.{
  AreLinks,
  IsBefore,
  IsCurrent,
  IsCurrentWith,
  IsMaterialized,
  KeepsLinks,
  link_row,
  looks_up,
  projected_row,
  referring_row,
  reprojected_change,
  swapped_at,
  width_in,
}
use Rattle.row_keys.specs.declared.table_change.TableChange.{TableChange}
use Rattle.upkeep.specs.declared.view_state.Links.{Links}
use Rattle.upkeep.specs.declared.view_state.Links.TheVariants as links
use Rattle.upkeep.specs.declared.view_state.Turn.{Turn}
use Rattle.upkeep.specs.declared.view_state.ViewState.{ViewState}
use Rattle.upkeep.proofs.FollowedRows.{image_length}
use Rattle.upkeep.proofs.LiveSides.{current_same, sides_same}
use Rattle.upkeep.proofs.LookedUpViews.{current_after, main_same}
use Rattle.upkeep.proofs.MainTable.{live_few, numbered_length}
use Rattle.upkeep.proofs.ReferringRows.{
  AreReferring,
  are_referring,
  can_retract,
  left_alike,
  lives,
  referring_below,
  referring_counted,
  referring_rows,
}
use Rattle.upkeep.proofs.Remade.{remade_leads}
use Rattle.upkeep.proofs.SwappedRows.{side_swapped}

set_twice : {X : Type 0} (xs : List X) (n : ℕ) (x y : X) → slice_set (slice_set xs n x) n y ≡ slice_set xs n y
set_twice [] n x y = refl
set_twice (z ∷ zs) zero x y = refl
set_twice (z ∷ zs) (suc n) x y = ap (λ ws. z ∷ ws) (set_twice zs n x y)

-- What was stored before the change is that of the rows without it.
pub current_without :
    (tables : List Table) (n : ℕ) (u : Turn) (c : TableChange) (old new : Rows) (v : View) (s : ViewState) → 0 < n
    → IsBefore n u c old new → IsCurrentWith tables old v s
    → IsCurrent tables v (side_by tables (swapped_at n u c new) v) s (numbered (rows_at new 0))
current_without tables n u c old new v s side before current =
    let slots : List Slot = swapped u c (rows_at new n) in
    let set : slice_set old n slots ≡ slice_set new n slots =
    ap (λ (rs : Rows). slice_set rs n slots) before.differs ∙ set_twice new n (rows_at old n) slots in
    subst (λ (rows : NumberedRows). IsCurrent tables v (side_by tables (swapped_at n u c new) v) s rows)
    (main_same n old new side before.differs)
    (subst (λ (rs : Rows). IsCurrent tables v (side_by tables rs v) s (numbered (rows_at old 0))) set
    (current_same tables v (side_by tables old v) (side_by tables (slice_set old n slots) v) s
    (numbered (rows_at old 0))
    (sides_same tables v.lookup old n slots (sym before.live_same)) current))

pub world_placed : (rows : Rows) (n : ℕ) (slots : List Slot) → n < length rows
    → contents_at (world_of (slice_set rows n slots)) n ≡ contents_of slots
world_placed [] n slots below = absurd (omega (arith, below))
world_placed (r ∷ rs) zero slots below = refl
world_placed (r ∷ rs) (suc n) slots below = world_placed rs n slots (omega (arith, below))

pub world_here : (rows : Rows) (n : ℕ) → n < length rows → contents_at (world_of rows) n ≡ contents_of (rows_at rows n)
world_here [] n below = absurd (omega (arith, below))
world_here (r ∷ rs) zero below = refl
world_here (r ∷ rs) (suc n) below = world_here rs n (omega (arith, below))

-- A key that the change doesn't name is looked up with the same result without it and with it.
pub sides_swapped :
    (tables : List Table) (o : Option Lookup) (n : ℕ) (u : Turn) (c : TableChange) (rows : Rows) → n < length rows
    → looks_up o n ≡ true → (d : Datum) → is_among d (named_keys (table_at tables n) c (rows_at rows n)) ≡ false
    → side_in tables (world_of (swapped_at n u c rows)) o d ≡ side_in tables (world_of rows) o d
sides_swapped tables None n u c rows below look d other = absurd (true≢false (sym look))
sides_swapped tables (Some l) n u c rows below look d other =
    let slots : List Slot = rows_at rows n in
    let P : ℕ → Type 0 = λ m. side_of (table_at tables m) (contents_at (world_of (swapped_at n u c rows)) m) d
    ≡ side_of (table_at tables m) (contents_at (world_of rows) m) d in
    subst P (sym (eqb-true (suc l.side) n look))
    (ap (λ w. side_of (table_at tables n) w d) (world_placed rows n (swapped u c slots) below)
    ∙ side_swapped u (table_at tables n) c d slots other
    ∙ ap (λ w. side_of (table_at tables n) w d) (sym (world_here rows n below)))

-- A view that looks the table up

pub record Laws : Type 0 where
  pub fits : ImageFits
  pub at : ImageAt
  pub keys : KeysAreOrdered
  pub ascend : NumbersAscend
  pub live : RowsAreLive
  pub numbers : RowsAreAtNumbers
  pub can_go : LiveCanGo
  pub few : FewRetracted

pub look_some : (o : Option Lookup) (n : ℕ) → looks_up o n ≡ true → (l : Lookup) × (o ≡ Some l)
look_some None n look = absurd (true≢false (sym look))
look_some (Some l) n look = (l, refl)

-- The test says whether a view is stale, or doesn't look a table up.
pub is_seen : (stale : Bool) {looks seen : Bool} → seen ≡ looks → (stale || not seen) ≡ false
    → (stale ≡ false) × (looks ≡ true)
is_seen stale {looks = looks} is h = neither_one stale looks (ap (λ b. stale || not b) (sym is) ∙ h)
  where
    neither_one : (a b : Bool) → (a || not b) ≡ false → (a ≡ false) × (b ≡ true)
    neither_one true b h = absurd (true≢false h)
    neither_one false true h = (refl, refl)
    neither_one false false h = absurd (true≢false h)

not_seen : (a b : Bool) → (a || not b) ≡ true → a ≡ false → b ≡ false
not_seen true b h fresh = absurd (true≢false fresh)
not_seen false true h fresh = absurd (true≢false (sym h))
not_seen false false h fresh = refl

-- one that is stale, or doesn't look the table up
pub left_as_was :
    (tables : List Table) (n : ℕ) (u : Turn) (c : TableChange) (old new : Rows) (v : View) (s : ViewState)
    {seen : Bool} → 0 < n → seen ≡ looks_up v.lookup n → (s.stale || not seen) ≡ true → IsBefore n u c old new
    → IsCurrentWith tables old v s → IsCurrentWith tables new v s
left_as_was tables n u c old new v s side is apart before current = λ fresh.
    current_after tables n old new v s side before.differs
    (not_seen s.stale (looks_up v.lookup n) (ap (λ b. s.stale || not b) (sym is) ∙ apart) fresh) current fresh

-- A view that isn't stale looks up table n, and links say which rows of the main table refer to the keys that a change
-- of the table names: those of these numbers.
pub record AreFound
    (tables : List Table) (n : ℕ) (c : TableChange) (rows : Rows) (v : View) (s : ViewState) (keys : List Key)
    (ns : List ℕ) (r : RowsByKey) :
    Type 0 where
  pub side : 0 < n
  pub below : n < length rows
  pub looks : looks_up v.lookup n ≡ true
  pub fresh : s.stale ≡ false
  pub named : map datum_of_key keys ≡ named_keys (table_at tables n) c (rows_at rows n)
  pub ascending : IsStrictlySortedBy nat_cmp ns
  pub is : s.links ≡ links.Rows r
  pub are : (m : ℕ) → is_numbered ns m ≡ list_any (λ k. refers_to r k m) keys

module _ (laws : Laws) {tables : List Table} {n : ℕ} (u : Turn) {c : TableChange} {rows : Rows} {v : View}
    {s : ViewState} {keys : List Key} {ns : List ℕ} {r : RowsByKey}
    (found : AreFound tables n c rows v s keys ns r) where
  abbrev pub main : List Slot
  main = rows_at rows 0

  abbrev pub made_without : List Datum → Option (List Datum)
  made_without = projected_row v (side_by tables (swapped_at n u c rows) v)

  abbrev pub made_with : List Datum → Option (List Datum)
  made_with = projected_row v (side_by tables rows v)

  pub look : (l : Lookup) × (v.lookup ≡ Some l)
  look = look_some v.lookup n found.looks

  module _ (old : Rows) (before : IsBefore n u c old rows) (current : IsCurrentWith tables old v s) where
    was : IsCurrent tables v (side_by tables (swapped_at n u c rows) v) s (numbered main)
    was = current_without tables n u c old rows v s found.side before current

    keeps : KeepsReferrers r (image (referring_row v) (numbered main))
    keeps =
        subst (λ (l : Links). KeepsLinks l (image (link_row l v) (numbered main))) found.is (was found.fresh).1.1

    pub refer : AreReferring look.0 (named_keys (table_at tables n) c (rows_at rows n)) main ns
    refer =
        subst (λ (ks : List Datum). AreReferring look.0 ks main ns) found.named
        (are_referring laws.keys laws.at laws.ascend laws.numbers v look.0 r main keys ns look.1 keeps found.are)

    pub there : All (λ m. m < length main) ns
    there = referring_below look.0 (named_keys (table_at tables n) c (rows_at rows n)) main ns refer

    can : CanRetract ns main
    can =
        can_retract laws.can_go look.0 (named_keys (table_at tables n) c (rows_at rows n)) main ns refer
        found.ascending

    unmoved : is_moved (width_in tables) v ≡ false
    unmoved = subst (AreLinks tables v s.kept) found.is (was found.fresh).1.0

    pub counted : length ns
        ≤ count_by (opened_for (width_in tables) v n (named_keys (table_at tables n) c (rows_at rows n))) (live main)
    counted =
        let named : List Datum = named_keys (table_at tables n) c (rows_at rows n) in
        subst (λ (b : Bool). length ns ≤ count_by (λ row. not b && refers_by v.lookup n named row) (live main))
        (sym unmoved)
        (referring_counted laws.can_go v.lookup look.0 n named main ns look.1 found.looks refer found.ascending)

    -- each of them refers to one of the keys
    pub refer_all : All (λ m. refers_by v.lookup n (map datum_of_key keys) (row_of main m) ≡ true) ns
    refer_all =
        subst (λ (ks : List Datum). All (λ m. refers_by v.lookup n ks (row_of main m) ≡ true) ns) (sym found.named)
        (referring_rows v.lookup look.0 n (named_keys (table_at tables n) c (rows_at rows n)) main ns look.1 found.looks
        refer)

    change_leads : Leads (image made_without (numbered main)) (reprojected_change tables rows v n u c ns)
        (image made_with (numbered main))
    change_leads =
        let names : List Datum = named_keys (table_at tables n) c (rows_at rows n) in
        remade_leads made_without made_with main laws.at laws.fits laws.ascend laws.numbers ns found.ascending
        (λ m listed. lives look.0 names main m (sym (refer m) ∙ listed))
        (left_alike v look.0 (side_by tables (swapped_at n u c rows) v) (side_by tables rows v) names main ns look.1
        (sides_swapped tables v.lookup n u c rows found.below found.looks) refer)

    change_few : (t : Table) → IsTable t → length (live main) ≤ t.max_rows
        → IsFew (image made_without (numbered main)) (reprojected_change tables rows v n u c ns)
    change_few t right held =
        let shorter = image_length made_without (numbered main) in
        let few = live_few laws.live t main right held in
        let less = laws.few ns main can in
        let many = numbered_length laws.live main in
        let long = length-map ns (λ m. shift m (made_without (row_of main m)) (made_with (row_of main m))) in
        omega (arith, shorter, few, less, many, long)

    -- what is required where the change is made
    pub remake_needs : (t : Table) → IsTable t → length (live main) ≤ t.max_rows
        → (kept : NumberedRows) × (IsMaterialized v s.kept kept
        × (Fits kept (reprojected_change tables rows v n u c ns)
        × IsFew kept (reprojected_change tables rows v n u c ns)))
    remake_needs t right held = (
      image made_without (numbered main),
      ((was found.fresh).0, (change_leads.fits, change_few t right held)),
    )

    -- and what is stored then
    pub remade_kept : (new : ViewState) → new.links ≡ s.links
        → ((kept : NumberedRows) → Fits kept (reprojected_change tables rows v n u c ns)
        → IsMaterialized v s.kept kept
        → IsMaterialized v new.kept (patched kept (reprojected_change tables rows v n u c ns)))
        → IsCurrentWith tables rows v new
    remade_kept new same kept = λ still. (
      subst (λ (made : NumberedRows). IsMaterialized v new.kept made) change_leads.patched_is
          (kept (image made_without (numbered main)) change_leads.fits (was found.fresh).0),
      subst (λ (l : Links). AreLinks tables v new.kept l × KeepsLinks l (image (link_row l v) (numbered main)))
          (sym (same ∙ found.is)) (unmoved, keeps),
    )

-- the table that a view looks up
pub looked_side : (tables : List Table) (o : Option Lookup) (n : ℕ) → IsLookup tables o → looks_up o n ≡ true
    → IsSideTable (table_at tables n)
looked_side tables None n right looks = absurd (true≢false (sym looks))
looked_side tables (Some l) n right looks =
    subst (λ (m : ℕ). IsSideTable (table_at tables m)) (eqb-true (suc l.side) n looks) right.3

pub on_ok : {X E : Type 0} (P Q : Type 0) (r : Result X E) → (P → Q) → OnOk r P → OnOk r Q
on_ok P Q (Ok x) f h = f h
on_ok P Q (Err e) f h = tt

pub on_ok_two : {X E : Type 0} (A B P : Type 0) (r : Result X E) → (A → B → P) → OnOk r A → OnOk r B → OnOk r P
on_ok_two A B P (Ok x) f a b = f a b
on_ok_two A B P (Err e) f a b = tt

pub on_ok_four : {X E : Type 0} (A B C D P : Type 0) (r : Result X E) → (A → B → C → D → P) → OnOk r A → OnOk r B
    → OnOk r C → OnOk r D → OnOk r P
on_ok_four A B C D P (Ok x) f a b c d = f a b c d
on_ok_four A B C D P (Err e) f a b c d = tt
