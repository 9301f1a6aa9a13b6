-- The rows of the main table by sub-groups, and their projected rows before and after a change of a side table.
use Rattle.std.proofs.Common.{
  ◌≡◌,
  ℕ,
  zero,
  suc,
  ◌<◌,
  ◌≤◌,
  ◌&&◌,
  ◌||◌,
  All,
  Bool,
  true,
  false,
  cond,
  not,
  List,
  [],
  ◌∷◌,
  ◌++◌,
  Err,
  Ok,
  Option,
  None,
  Result,
  Some,
  drop,
  get_or,
  length,
  take,
  refl,
  ap,
  ap₂,
  sym,
  subst,
  ◌∙◌,
  arith,
  true≢false,
}
use Rattle.std.proofs.lemmas.List.{get_or_append_left}
use Rattle.std.proofs.lemmas.List.Elements.{All-from_recursion, recursion_from_All}
use Rattle.std.proofs.lemmas.Option.{none-some}
use Rattle.std.specs.BTreeMap.{is_at}
use Rattle.std.specs.List.{AllByRecursion, cons_option, filter, filter_map, list_any}
use Rattle.std.specs.Map.{keys_of, lookup, values_of}
use Rattle.std.specs.Ordering.{is_eq}
use Rattle.std.specs.Option.{option_and_then}
use Rattle.std.specs.Prelude.{◌==◌, OnOk, is_some, nat_lt}
use Rattle.std.proofs.lemmas.Bool.{ltb-true}
use Rattle.values.specs.ColTypes.{IsSingle}
use Rattle.values.specs.Datum.{Datum, items_of}
use Rattle.values.specs.Keys.{key_of}
use Rattle.values.specs.Layouts.{HoldsEach}
use Rattle.values.specs.Limits.{max_main_rows}
use Rattle.values.specs.Logical.{NamedType, trees_of}
use Rattle.values.specs.Order.{datum_cmp}
use Rattle.values.specs.Rose.{Rose, kids_of}
use Rattle.values.specs.declared.key.Key.{Key}
use Rattle.view_lang.specs.Cells.{cell_at}
use Rattle.view_lang.specs.Config.{Table, View}
use Rattle.view_lang.specs.ConfigRules.{AreOutputs, IsLookup, IsView}
use Rattle.view_lang.specs.Fields.{IsOrdered}
use Rattle.view_lang.specs.Contents.{is_among, same_key}
use Rattle.view_lang.specs.Filter.{Filter}
use Rattle.view_lang.specs.Images.{ImageValues, image}
use Rattle.view_lang.specs.Joined.{Side, joined_by, joined_row}
use Rattle.view_lang.specs.Outputs.{GroupOutput, Outputs, groups}
use Rattle.view_lang.specs.Rows.{IsRow}
use Rattle.view_lang.specs.Shifts.{NumberedRows}
use Rattle.view_lang.specs.TableRules.{type_of}
use Rattle.view_lang.specs.ViewColumns.{joined_columns}
use Rattle.view_lang.specs.Aggregates.{IsKeyCell}
use Rattle.view_lang.specs.Truth.{passes}
use Rattle.view_lang.specs.Views.{passing_row}
use Rattle.view_lang.specs.World.{table_at}
use Rattle.view_lang.specs.declared.view.Lookup.{Lookup}
use Rattle.view_lang.proofs.Distinct.{same_symm}
use Rattle.group_order.specs.Ranked.{Keeps as KeepsRanked, Ranked}
use Rattle.group_state.specs.GroupCounts.{GroupCounts}
use Rattle.group_state.specs.Groups.{Keeps as KeepsGroups, KeepsAt}
use Rattle.group_state.specs.Aggregates.{IsAccumulated as IsKeptColumn}
use Rattle.group_state.specs.Keys.{key_cmp, key_in, tuple_cmp}
use Rattle.group_state.specs.Moves.{begins_with_one}
use Rattle.group_state.specs.Tuples.{has_tuple, members, tuple_of}
use Rattle.group_state.specs.declared.accumulated_columns.AccumulatedColumn.{AccumulatedColumn}
use Rattle.group_state.proofs.KeyData.{cell-data, key-data}
use Rattle.group_state.proofs.Members.{tuple_itself}
use Rattle.row_keys.proofs.KeyCells.{held_key, keyless}
use Rattle.row_keys.proofs.KeyFacts.{neither}
use Rattle.row_keys.specs.NumberLaws.{RowsAreLive}
use Rattle.row_keys.specs.Numbered.{numbered}
use Rattle.row_keys.specs.Slots.{Slot, live}
use Rattle.row_keys.specs.Store.{Store}
use Rattle.sub_groups.specs.FilterParts.{is_main, passes_main}
use Rattle.sub_groups.specs.SubGroups.{AreSubGroups, IsSubRow, OthersAreLeftOut, rows_but, sub_keys}
use Rattle.sub_groups.specs.declared.sub_groups.SubGroups.{SubGroups}
use Rattle.upkeep.specs.Inputs.{side_by}
use Rattle.upkeep.specs.Moves.{AreGrouped, CanMove, CanTurnSubGroups, TurnsSubGroups, out_at, projected_but}
use Rattle.upkeep.specs.Stores.{Rows}
use Rattle.upkeep.specs.ViewStates.{
  AreLinks,
  IsMaterialized,
  IsMaterializedBy,
  KeepsLinks,
  ShowsEach,
  columns_in,
  projected_by,
  projected_row,
  sub_row_of,
  width_in,
}
use Rattle.upkeep.specs.declared.view_state.Materialized.{Materialized}
use Rattle.upkeep.specs.declared.view_state.Materialized.TheVariants as kept
use Rattle.upkeep.specs.declared.view_state.Links.TheVariants as links
use Rattle.upkeep.specs.declared.view_state.Turn.{Turn}
use Rattle.upkeep.specs.declared.view_state.Turn.TheVariants as turn
use Rattle.upkeep.proofs.StoreContents.{Hold, from_stores, to_stores}

-- A looked-up cell that is none of some values

keyed_same : (c d : Datum) → IsKeyCell c → IsKeyCell d → is_at (key_cmp (key_in d)) (key_in c) ≡ same_key c d
keyed_same c d is_c is_d =
    ap is_eq
    (key-data (key_in d) (key_in c)
    ∙ ap₂ datum_cmp (cell-data d is_d) (cell-data c is_c))
    ∙ same_symm d c

not_same : (c d : Datum) → IsKeyCell c → (o : Option Key) → key_of d ≡ o
    → is_at (key_cmp (key_in d)) (key_in c) ≡ false → same_key c d ≡ false
not_same c d is None e h =
    same_symm c d ∙ ap (same_key d) (sym (cell-data c is)) ∙ keyless d (key_in c) e
not_same c d is (Some k) e h = sym (keyed_same c d is (ap is_some e)) ∙ h

not_among : (c : Datum) (t : List Key) (ds : List Datum) → IsKeyCell c
    → begins_with_one ds (key_in c ∷ t) ≡ false → is_among c ds ≡ false
unfolding is_among
not_among c t [] is h = refl
not_among c t (d ∷ ds) is h =
    let hs = neither (is_at (key_cmp (key_in d)) (key_in c)) (begins_with_one ds (key_in c ∷ t)) h in
    ap₂ (λ a b. a || b) (not_same c d is (key_of d) refl hs.0) (not_among c t ds is hs.1)

-- Rows of the main table

row_wide : (fs : List (Rose NamedType)) (row : List Datum) → HoldsEach (trees_of (kids_of fs)) (items_of row)
    → length row ≡ length fs
row_wide [] [] held = refl
row_wide [] (c ∷ cs) held = absurd held
row_wide (f ∷ fs) [] held = absurd held
row_wide (f ∷ fs) (c ∷ cs) held = ap suc (row_wide fs cs held.1)

row_key : (fs : List (Rose NamedType)) (row : List Datum) → HoldsEach (trees_of (kids_of fs)) (items_of row) → (k : ℕ)
    → IsOrdered fs k → IsKeyCell (cell_at row k)
row_key [] row held k is = absurd (omega (arith, is.0))
row_key (f ∷ fs) [] held k is = absurd held
row_key (f ∷ fs) (c ∷ cs) held zero is = held_key f c is.1 held.0
row_key (f ∷ fs) (c ∷ cs) held (suc k) is = row_key fs cs held.1 k (omega (arith, is.0), is.1)

keys_keyed : (fs : List (Rose NamedType)) (row : List Datum) → HoldsEach (trees_of (kids_of fs)) (items_of row)
    → (keys : List ℕ) → AllByRecursion (IsOrdered fs) keys → AllByRecursion (λ k. IsKeyCell (cell_at row k)) keys
keys_keyed fs row held [] all = tt
keys_keyed fs row held (k ∷ ks) all = (row_key fs row held k all.0, keys_keyed fs row held ks all.1)

-- Grouping columns of the main table are ordered there.
first_ordered : (fs gs : List (Rose NamedType)) (k : ℕ) → k < length fs → IsOrdered (fs ++ gs) k → IsOrdered fs k
first_ordered fs gs k below is = (
  below,
  subst (λ (f : Rose NamedType). IsSingle (type_of f)) (get_or_append_left fs gs _ k below) is.1,
)

keys_ordered : (fs gs : List (Rose NamedType)) (on : ℕ) (by : List ℕ) → AllByRecursion (IsOrdered (fs ++ gs)) by
    → AllByRecursion (IsOrdered fs) (filter (λ k. nat_lt k (length fs) && not (k == on)) by)
keys_ordered fs gs on [] all = tt
keys_ordered fs gs on (k ∷ ks) all = go (nat_lt k (length fs)) refl (not (k == on)) (keys_ordered fs gs on ks all.1)
  where
    rest : List ℕ
    rest = filter (λ j. nat_lt j (length fs) && not (j == on)) ks

    go : (a : Bool) → nat_lt k (length fs) ≡ a → (b : Bool) → AllByRecursion (IsOrdered fs) rest
        → AllByRecursion (IsOrdered fs) (cond (a && b) (k ∷ rest) rest)
    go true e true h = (first_ordered fs gs k (ltb-true k (length fs) e) all.0, h)
    go true e false h = h
    go false e b h = h

pub sub_keys_ordered : (tables : List Table) (l : Lookup) (by : List ℕ) → IsLookup tables (Some l)
    → All (IsOrdered (joined_columns tables (Some l))) by
    → AllByRecursion (IsOrdered (table_at tables 0).columns) (sub_keys (width_in tables) l by)
sub_keys_ordered tables l by look ordered = (
  look.1,
  keys_ordered (table_at tables 0).columns (table_at tables (suc l.side)).columns l.on by
      (recursion_from_All (IsOrdered (joined_columns tables (Some l))) by ordered),
)

-- Each row is in the sub-group of its tuple, or in none.

module _ (fs : List (Rose NamedType)) (v : View) (keys : List ℕ) (ordered : AllByRecursion (IsOrdered fs) keys) where
  one_sub : (row : List Datum) → IsRow fs row → (b : Bool) → passes_main (length row) v.filter row ≡ b
      → (rest : List (List Datum)) → AllByRecursion (IsSubRow (length fs) v keys) rest
      → AllByRecursion (IsSubRow (length fs) v keys) (cons_option (cond b (Some row) None) rest)
  one_sub row is true e rest all = (
    record {
      main = record {
        wide = row_wide fs row is.held;
        keyed = All-from_recursion (λ k. IsKeyCell (cell_at row k)) keys (keys_keyed fs row is.held keys ordered);
      };
      passes = subst (λ (n : ℕ). passes_main n v.filter row ≡ true) (row_wide fs row is.held) e;
    },
    all,
  )
  one_sub row is false e rest all = all

  pub each_sub : (rows : List (List Datum)) → AllByRecursion (IsRow fs) rows
      → AllByRecursion (IsSubRow (length fs) v keys) (filter_map (sub_row_of v) rows)
  each_sub [] all = tt
  each_sub (row ∷ rows) all =
      one_sub row all.0 (passes_main (length row) v.filter row) refl (filter_map (sub_row_of v) rows)
      (each_sub rows all.1)

  module _ (left_out : OthersAreLeftOut) (side : Side) where
    one_made : (row : List Datum) → IsRow fs row → (b : Bool) → passes_main (length row) v.filter row ≡ b
        → (rest : List (List Datum))
        → cons_option (passing_row v side row) (filter_map (passing_row v side) rest)
        ≡ filter_map (passing_row v side) (cons_option (cond b (Some row) None) rest)
    one_made row is true e rest = refl
    one_made row is false e rest =
        ap (λ o. cons_option o (filter_map (passing_row v side) rest)) (left_out (length row) v side row refl e)

    pub made_of_subs : (rows : List (List Datum)) → AllByRecursion (IsRow fs) rows
        → filter_map (passing_row v side) rows ≡ filter_map (passing_row v side) (filter_map (sub_row_of v) rows)
    made_of_subs [] all = refl
    made_of_subs (row ∷ rows) all =
        ap (cons_option (passing_row v side row)) (made_of_subs rows all.1)
        ∙ one_made row all.0 (passes_main (length row) v.filter row) refl (filter_map (sub_row_of v) rows)

subs_few : (v : View) (rows : List (List Datum)) → length (filter_map (sub_row_of v) rows) ≤ length rows
subs_few v [] = omega arith
subs_few v (r ∷ rs) = go (sub_row_of v r) (subs_few v rs)
  where
    go : (o : Option (List Datum)) → length (filter_map (sub_row_of v) rs) ≤ length rs
        → length (cons_option o (filter_map (sub_row_of v) rs)) ≤ suc (length rs)
    go None h = omega (arith, h)
    go (Some x) h = omega (arith, h)

-- Rows that are in none of the sub-groups that move

among_keys : (f : List Key → Bool) (es : List (List Key × GroupCounts)) (g : GroupCounts) → lookup f es ≡ Some g
    → list_any f (keys_of es) ≡ true
among_keys f [] g h = absurd (none-some g h)
among_keys f (e ∷ es) g h = go (f e.0) h (λ k. among_keys f es g k)
  where
    go : (b : Bool) → cond b (Some e.1) (lookup f es) ≡ Some g
        → (lookup f es ≡ Some g → list_any f (keys_of es) ≡ true) → (b || list_any f (keys_of es)) ≡ true
    go true h rest = refl
    go false h rest = rest h

member_there : (keys : List ℕ) (t : List Key) (rows : List (List Datum)) (j : ℕ) (d : List Datum) → j < length rows
    → has_tuple keys t (get_or rows j d) ≡ true → 0 < length (members keys t rows)
member_there keys t [] j d below h = absurd (omega (arith, below))
member_there keys t (r ∷ rs) zero d below h =
    subst (λ (b : Bool). 0 < length (cond b (r ∷ members keys t rs) (members keys t rs))) (sym h) (omega arith)
member_there keys t (r ∷ rs) (suc j) d below h =
    go (has_tuple keys t r) (member_there keys t rs j d (omega (arith, below)) h)
  where
    go : (b : Bool) → 0 < length (members keys t rs)
        → 0 < length (cond b (r ∷ members keys t rs) (members keys t rs))
    go true more = omega arith
    go false more = more

module _ (s : SubGroups) (rows : List (List Datum)) (kept : KeepsGroups s.groups rows) where
  grouped_by : (t : List Key) (o : Option GroupCounts) → lookup (is_at (tuple_cmp t)) s.groups.groups ≡ o
      → 0 < length (members s.groups.keys t rows)
      → list_any (is_at (tuple_cmp t)) (keys_of s.groups.groups) ≡ true
  grouped_by t None e some =
      let none : members s.groups.keys t rows ≡ [] =
      subst (λ (o : Option GroupCounts). KeepsAt s.groups.columns (members s.groups.keys t rows) o) e
      (kept.groups_are t) in
      let short : length (members s.groups.keys t rows) ≡ 0 = ap length none in absurd (omega (arith, some, short))
  grouped_by t (Some g) e some = among_keys (is_at (tuple_cmp t)) s.groups.groups g e

  has_group : (j : ℕ) (d : List Datum) → j < length rows
      → list_any (is_at (tuple_cmp (tuple_of s.groups.keys (get_or rows j d)))) (keys_of s.groups.groups) ≡ true
  has_group j d below =
      let t : List Key = tuple_of s.groups.keys (get_or rows j d) in
      grouped_by t (lookup (is_at (tuple_cmp t)) s.groups.groups) refl
      (member_there s.groups.keys t rows j d below (tuple_itself t))

  pub all_grouped : AllByRecursion
      (λ row. list_any (is_at (tuple_cmp (tuple_of s.groups.keys row))) (keys_of s.groups.groups) ≡ true) rows
  all_grouped =
      recursion_from_All
      (λ row. list_any (is_at (tuple_cmp (tuple_of s.groups.keys row))) (keys_of s.groups.groups) ≡ true) rows
      (λ k d below. has_group k d below)

kept_alike : (v : View) (l : Lookup) (a b : Side) (row : List Datum) → v.lookup ≡ Some l
    → a (cell_at row l.on) ≡ b (cell_at row l.on) → passing_row v a row ≡ passing_row v b row
unfolding joined_row
kept_alike v l a b row is same =
    let joins : (o : Option Lookup) → o ≡ Some l → joined_row o a row ≡ joined_row o b row =
    λ o e. subst (λ (x : Option Lookup). joined_row x a row ≡ joined_row x b row) (sym e)
    (ap (λ cells. joined_by (Some l) row cells) same) in
    ap (option_and_then (λ r. cond (passes v.filter r) (Some r) None)) (joins v.lookup is)

-- Those that move are all that begin with one of the named values; the projected rows of the others stay.
module _ (v : View) (l : Lookup) (a b : Side) (rest : List ℕ) (named : List Datum) (ts : List (List Key))
    (es : List (List Key)) (is : v.lookup ≡ Some l)
    (under : (t : List Key) → list_any (is_at (tuple_cmp t)) ts
    ≡ (begins_with_one named t && list_any (is_at (tuple_cmp t)) es))
    (same : (d : Datum) → is_among d named ≡ false → a d ≡ b d) where
  abbrev keys : List ℕ
  keys = l.on ∷ rest

  not_begun : (x y z : Bool) → x ≡ (y && z) → x ≡ false → z ≡ true → y ≡ false
  not_begun x true true e f g = absurd (true≢false (sym e ∙ f))
  not_begun x true false e f g = absurd (true≢false (sym g))
  not_begun x false z e f g = refl

  row_alike : (row : List Datum) → IsKeyCell (cell_at row l.on)
      → list_any (is_at (tuple_cmp (tuple_of keys row))) ts ≡ false
      → list_any (is_at (tuple_cmp (tuple_of keys row))) es ≡ true → passing_row v a row ≡ passing_row v b row
  row_alike row keyed out there =
      kept_alike v l a b row is
      (same (cell_at row l.on)
      (not_among (cell_at row l.on) (tuple_of rest row) named keyed
      (not_begun (list_any (is_at (tuple_cmp (tuple_of keys row))) ts) (begins_with_one named (tuple_of keys row))
      (list_any (is_at (tuple_cmp (tuple_of keys row))) es) (under (tuple_of keys row)) out there)))

  pub rest_alike : (rows : List (List Datum)) → AllByRecursion (λ row. IsKeyCell (cell_at row l.on)) rows
      → AllByRecursion (λ row. list_any (is_at (tuple_cmp (tuple_of keys row))) es ≡ true) rows
      → projected_but v a keys ts rows ≡ projected_but v b keys ts rows
  rest_alike [] keyed there = refl
  rest_alike (row ∷ rows) keyed there =
      go (list_any (is_at (tuple_cmp (tuple_of keys row))) ts) refl (rest_alike rows keyed.1 there.1)
    where
      go : (c : Bool) → list_any (is_at (tuple_cmp (tuple_of keys row))) ts ≡ c
          → projected_but v a keys ts rows ≡ projected_but v b keys ts rows
          → filter_map (passing_row v a) (cond (not c) (row ∷ rows_but keys ts rows) (rows_but keys ts rows))
          ≡ filter_map (passing_row v b) (cond (not c) (row ∷ rows_but keys ts rows) (rows_but keys ts rows))
      go true e h = h
      go false e h = ap₂ cons_option (row_alike row keyed.0 e there.0) h

-- Where none is out, all rows are there.
pub none_out : (keys : List ℕ) (rows : List (List Datum)) → rows_but keys [] rows ≡ rows
none_out ks [] = refl
none_out ks (row ∷ rows) = ap (λ rs. row ∷ rs) (none_out ks rows)

pub made_of_groups : (v : View) (side : Side) (by : List ℕ) (outs : List GroupOutput) (having : Option Filter)
    (rows : List (List Datum)) → v.outputs ≡ groups by outs having
    → filter_map (projected_row v side) rows ≡ filter_map (passing_row v side) rows
made_of_groups v side by outs having rows is =
    subst (λ (os : Outputs). filter_map (λ row. projected_by os (passing_row v side row)) rows
    ≡ filter_map (passing_row v side) rows)
    (sym is) refl

-- A view of groups whose sub-groups move

some_is : {X : Type 0} (x y : X) → Some x ≡ Some y → x ≡ y
some_is x y h = cc h

groups_in : (k : Materialized) (g : Ranked) (columns : List AccumulatedColumn) → k ≡ kept.Groups g
    → columns_in k ≡ Some columns
    → g.groups.columns ≡ columns
groups_in k g columns is counted =
    some_is g.groups.columns columns (subst (λ (x : Materialized). columns_in x ≡ Some columns) is counted)

-- what is used from the lower crates' laws
pub record Laws : Type 0 where
  pub values : ImageValues
  pub live : RowsAreLive
  pub left_out : OthersAreLeftOut

-- The view's groups are kept by sub-groups, which are those of these rows of the main table.
pub record AreKeptBySubGroups
    (tables : List Table) (v : View) (s : SubGroups) (k : Materialized) (g : Ranked) (slots : List Slot) :
    Type 0 where
  pub is : k ≡ kept.Groups g
  pub right : AreLinks tables v k (links.SubGroups s)
  pub view : IsView tables v
  pub held : All (IsRow (table_at tables 0).columns) (live slots)
  pub few : length (live slots) ≤ max_main_rows
  pub linked : KeepsLinks (links.SubGroups s) (image (sub_row_of v) (numbered slots))

module _ (laws : Laws) {tables : List Table} {v : View} {s : SubGroups} {k : Materialized} {g : Ranked}
    {slots : List Slot} (given : AreKeptBySubGroups tables v s k g slots) where
  abbrev of_sub : AreSubGroups (width_in tables) v s
  of_sub = given.right.0

  abbrev sub_by : List ℕ
  sub_by = sub_keys (width_in tables) of_sub.look of_sub.by

  abbrev pub linked_rows : List (List Datum)
  linked_rows = values_of (image (sub_row_of v) (numbered slots))

  all_held : AllByRecursion (IsRow (table_at tables 0).columns) (live slots)
  all_held = recursion_from_All (IsRow (table_at tables 0).columns) (live slots) given.held

  linked_are : linked_rows ≡ filter_map (sub_row_of v) (live slots)
  linked_are = laws.values (sub_row_of v) (numbered slots) ∙ ap (filter_map (sub_row_of v)) (laws.live slots)

  ordered : AllByRecursion (IsOrdered (table_at tables 0).columns) sub_by
  ordered =
      sub_keys_ordered tables of_sub.look of_sub.by
      (subst (λ (o : Option Lookup). IsLookup tables o) of_sub.can.lookup given.view.lookup)
      (subst (λ (o : Option Lookup). All (IsOrdered (joined_columns tables o)) of_sub.by) of_sub.can.lookup
      (subst (λ (os : Outputs). AreOutputs (joined_columns tables v.lookup) os) of_sub.grouped given.view.outputs).0)

  each_by : AllByRecursion (IsSubRow (width_in tables) v sub_by) linked_rows
  each_by =
      subst (λ (rows : List (List Datum)). AllByRecursion (IsSubRow (width_in tables) v sub_by) rows) (sym linked_are)
      (each_sub (table_at tables 0).columns v sub_by ordered (live slots) all_held)

  pub grouped : AreGrouped tables v s linked_rows
  grouped = record {
    each = subst (λ (ks : List ℕ). All (IsSubRow (width_in tables) v ks) linked_rows) (sym of_sub.keyed)
        (All-from_recursion (IsSubRow (width_in tables) v sub_by) linked_rows each_by);
    kept = given.linked;
    few =
        let short = subs_few v (live slots) in
        let same = ap length linked_are in omega (arith, given.few, short, same);
  }

  pub can_move : (rows : NumberedRows) → IsMaterialized v k rows → CanMove tables v s g
  can_move rows kept_by = record {
    right = of_sub;
    keyed = (subst (λ (os : Outputs). IsMaterializedBy (ShowsEach v) (kept.Groups g) os v.order rows) of_sub.grouped
        (subst (λ (x : Materialized). IsMaterialized v x rows) given.is kept_by)).0;
    counted = groups_in k g s.groups.columns given.is given.right.1;
  }

  made_are : (side : Side) → values_of (image (projected_row v side) (numbered slots))
      ≡ projected_but v side s.groups.keys [] linked_rows
  made_are side =
      laws.values (projected_row v side) (numbered slots)
      ∙ ap (filter_map (projected_row v side)) (laws.live slots)
      ∙ made_of_groups v side of_sub.by of_sub.outputs of_sub.having (live slots) of_sub.grouped
      ∙ made_of_subs (table_at tables 0).columns v sub_by ordered laws.left_out side (live slots) all_held
      ∙ ap (filter_map (passing_row v side)) (sym linked_are)
      ∙ sym (ap (filter_map (passing_row v side)) (none_out s.groups.keys linked_rows))

  pub kept_of : (side : Side) → IsMaterialized v k (image (projected_row v side) (numbered slots))
      → KeepsRanked g (projected_but v side s.groups.keys [] linked_rows)
  kept_of side kept_by =
      subst (KeepsRanked g) (made_are side)
      (subst (λ (os : Outputs). IsMaterializedBy (ShowsEach v) (kept.Groups g) os v.order
      (image (projected_row v side) (numbered slots)))
      of_sub.grouped
      (subst (λ (x : Materialized). IsMaterialized v x (image (projected_row v side) (numbered slots))) given.is
      kept_by)).3

  pub kept_back : (h : Ranked) (side : Side) (rows : NumberedRows) → IsMaterialized v k rows
      → h.groups.keys ≡ g.groups.keys
      → h.groups.columns ≡ g.groups.columns → h.ranking ≡ g.ranking
      → KeepsRanked h (projected_but v side s.groups.keys [] linked_rows)
      → IsMaterialized v (kept.Groups h) (image (projected_row v side) (numbered slots))
  kept_back h side rows kept_by keys columns ranking kept_now =
      let was = subst (λ (os : Outputs). IsMaterializedBy (ShowsEach v) (kept.Groups g) os v.order rows) of_sub.grouped
      (subst (λ (x : Materialized). IsMaterialized v x rows) given.is kept_by) in
      subst (λ (os : Outputs). IsMaterializedBy (ShowsEach v) (kept.Groups h) os v.order
      (image (projected_row v side) (numbered slots)))
      (sym of_sub.grouped) (
        keys ∙ was.0,
        subst (λ (cs : List AccumulatedColumn). All (λ o. IsKeptColumn cs o.aggregate) of_sub.outputs) (sym columns) was.1,
        ranking ∙ was.2,
        subst (KeepsRanked h) (sym (made_are side)) kept_now,
      )

  pub moved_alike :
      (a b : Side) (named : List Datum) (ts : List (List Key))
      → ((t : List Key) → list_any (is_at (tuple_cmp t)) ts
      ≡ (begins_with_one named t && list_any (is_at (tuple_cmp t)) (keys_of s.groups.groups)))
      → ((d : Datum) → is_among d named ≡ false → a d ≡ b d)
      → projected_but v a s.groups.keys ts linked_rows ≡ projected_but v b s.groups.keys ts linked_rows
  moved_alike a b named ts under same =
      let rest : List ℕ = filter (λ j. is_main (width_in tables) j && not (j == of_sub.look.on)) of_sub.by in
      let there = subst (λ (ks : List ℕ). AllByRecursion
      (λ row. list_any (is_at (tuple_cmp (tuple_of ks row))) (keys_of s.groups.groups) ≡ true) linked_rows)
      of_sub.keyed (all_grouped s linked_rows given.linked) in
      subst (λ (ks : List ℕ). projected_but v a ks ts linked_rows ≡ projected_but v b ks ts linked_rows)
      (sym of_sub.keyed)
      (rest_alike v of_sub.look a b rest named ts (keys_of s.groups.groups) of_sub.can.lookup under same linked_rows
      (each_keyed linked_rows each_by) there)
    where
      each_keyed : (rows : List (List Datum)) → AllByRecursion (IsSubRow (width_in tables) v sub_by) rows
          → AllByRecursion (λ row. IsKeyCell (cell_at row of_sub.look.on)) rows
      each_keyed [] all = tt
      each_keyed (row ∷ rows) all = (
        (recursion_from_All (λ j. IsKeyCell (cell_at row j)) sub_by all.0.main.keyed).0,
        each_keyed rows all.1,
      )

-- Sub-groups of these rows are removed from groups of what stores hold, or added to them.

all_of : {X : Type 0} (xs : List X) → take (length xs) xs ≡ xs
all_of [] = refl
all_of (x ∷ xs) = ap (λ ys. x ∷ ys) (all_of xs)

none_of : {X : Type 0} (xs : List X) → drop (length xs) xs ≡ []
none_of [] = refl
none_of (x ∷ xs) = none_of xs

-- Groups hold the projected rows of these rows, but for those of the sub-groups that are out.
abbrev pub KeepsOthers : List Table → Rows → View → SubGroups → List (List Datum) → Ranked → List (List Key) → Type 0
KeepsOthers tables held v s rows g out = KeepsRanked g (projected_but v (side_by tables held v) s.groups.keys out rows)

module _ {tables : List Table} {held : Rows} {stores : List Store} {v : View} {s : SubGroups}
    {rows : List (List Datum)} (hold : Hold tables held stores) (grouped : AreGrouped tables v s rows) where
  pub can_turn : (u : Turn) (ts : List (List Key)) (g : Ranked) → KeepsOthers tables held v s rows g (out_at u 0 ts)
      → CanTurnSubGroups stores v s ts u g
  can_turn u ts g keeps = (
    rows,
    to_stores hold (λ (tb : List Table) (rs : Rows). AreGrouped tb v s rows
        × KeepsOthers tb rs v s rows g (out_at u 0 ts)) (grouped, keeps),
  )

  turned : (u : Turn) (ts : List (List Key)) (g h : Ranked) → TurnsSubGroups stores v s ts u g h
      → KeepsOthers tables held v s rows g (out_at u 0 ts)
      → KeepsOthers tables held v s rows h (out_at u (length ts) ts)
  turned u ts g h turns =
      from_stores hold (λ (tb : List Table) (rs : Rows). AreGrouped tb v s rows
      → KeepsOthers tb rs v s rows g (out_at u 0 ts) → KeepsOthers tb rs v s rows h (out_at u (length ts) ts))
      (turns rows) grouped

  pub all_went : (ts : List (List Key)) (g h : Ranked) → TurnsSubGroups stores v s ts turn.Go g h
      → KeepsOthers tables held v s rows g [] → KeepsOthers tables held v s rows h ts
  all_went ts g h turns keeps =
      subst (KeepsOthers tables held v s rows h) (all_of ts) (turned turn.Go ts g h turns keeps)

  pub all_came : (ts : List (List Key)) (g h : Ranked) → TurnsSubGroups stores v s ts turn.Come g h
      → KeepsOthers tables held v s rows g ts → KeepsOthers tables held v s rows h []
  all_came ts g h turns keeps =
      subst (KeepsOthers tables held v s rows h) (none_of ts) (turned turn.Come ts g h turns keeps)

pub on_ok : {X E : Type 0} (A B C D P : Type 0) (r : Result X E) → (A → B → C → D → P) → OnOk r A → OnOk r B → OnOk r C
    → D → OnOk r P
on_ok A B C D P (Ok x) f a b c d = f a b c d
on_ok A B C D P (Err e) f a b c d = tt
