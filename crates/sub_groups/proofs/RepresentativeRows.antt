-- A representative is joined, filtered and grouped as the sub-group's rows are.
use Rattle.std.proofs.Common.{
  ◌≡◌,
  ℕ,
  zero,
  suc,
  ◌+◌,
  ◌<◌,
  ◌≤◌,
  All,
  Bool,
  true,
  false,
  cond,
  not,
  ◌&&◌,
  ◌||◌,
  List,
  [],
  ◌∷◌,
  ◌++◌,
  Option,
  None,
  Some,
  length,
  map,
  refl,
  sym,
  ap,
  ap₂,
  subst,
  ◌∙◌,
  arith,
  true≢false,
  true-eqb,
  eq-eqb,
}
use Rattle.std.proofs.lemmas.Bool.{ltb-false, ltb-true}
use Rattle.std.proofs.lemmas.List.Elements.{All-from_recursion, All-weaker, recursion_from_All}
use Rattle.std.proofs.lemmas.Option.{none-some}
use Rattle.std.specs.BTreeMap.{is_at}
use Rattle.std.specs.List.{AllByRecursion, cons_option, filter, filter_map, list_any}
use Rattle.std.specs.Option.{option_and_then, option_map}
use Rattle.std.specs.Prelude.{◌==◌, if◌then◌else◌, IsSome, nat_lt, slice_index_or}
use Rattle.values.specs.Datum.{Datum, null}
use Rattle.values.specs.declared.key.Key.{Key}
use Rattle.view_lang.specs.Cells.{cell_at, cells_at}
use Rattle.view_lang.specs.Config.{View}
use Rattle.view_lang.specs.Filter.{Filter}
use Rattle.view_lang.specs.Joined.{Side, joined_row, or_missing}
use Rattle.view_lang.specs.Truth.{passes}
use Rattle.view_lang.specs.Aggregates.{IsKeyCell}
use Rattle.view_lang.specs.Views.{passing_row}
use Rattle.view_lang.specs.declared.view.Lookup.{Lookup}
use Rattle.group_state.specs.Cells.{KeepsCells}
use Rattle.group_state.specs.GroupCounts.{GroupCounts}
use Rattle.group_state.specs.Keys.{data_of, key_in, tuple_cmp}
use Rattle.group_state.specs.Rows.{KeepsRows, cells}
use Rattle.group_state.specs.Tuples.{has_tuple, members, tuple_of}
use Rattle.group_state.specs.declared.accumulated_columns.AccumulatedColumn.{AccumulatedColumn}
use Rattle.group_state.proofs.KeyData.{HasKeys, tuple-of-data}
use Rattle.group_state.proofs.Members.{same_tuple}
use Rattle.sub_groups.specs.FilterParts.{conjuncts, is_decided, is_known, is_main, passes_main, passes_others}
use Rattle.sub_groups.specs.Places.{representative, representative_cell, representative_from, representative_row}
use Rattle.sub_groups.specs.SubGroups.{
  ArePlaced,
  CanSubGroup,
  IsSubRow,
  OthersAreLeftOut,
  SubGroupsArePlaced,
  are_main,
  sub_keys,
}
use Rattle.sub_groups.proofs.FilterSplit.{both_true, main_alike, others_alike, passes_both}

-- Representatives of sub-groups.

length_stand : (keys : List ℕ) (cells : List Datum) (i m : ℕ) → length (representative_from keys cells i m) ≡ m
length_stand keys cells i zero = refl
length_stand keys cells i (suc m) = ap suc (length_stand keys cells (suc i) m)

cell_stand : (keys : List ℕ) (cells : List Datum) (i m k : ℕ) → k < m
    → cell_at (representative_from keys cells i m) k ≡ representative_cell keys cells (i + k)
cell_stand keys cells i zero k h = absurd (omega (arith, h))
cell_stand keys cells i (suc m) zero h = let e : i ≡ i + 0 = omega arith in ap (representative_cell keys cells) e
cell_stand keys cells i (suc m) (suc k) h =
    let e : suc i + k ≡ i + suc k = omega arith in
    cell_stand keys cells (suc i) m k (omega (arith, h)) ∙ ap (representative_cell keys cells) e

stands : (keys : List ℕ) (row : List Datum) (k : ℕ) → list_any (λ j. j == k) keys ≡ true
    → representative_cell keys (cells_at keys row) k ≡ cell_at row k
stands [] row k h = absurd (true≢false (sym h))
stands (c ∷ cs) row k h = go (c == k) refl h (stands cs row k)
  where
    go : (b : Bool) → (c == k) ≡ b → (b || list_any (λ d. d == k) cs) ≡ true
        → (list_any (λ d. d == k) cs ≡ true → representative_cell cs (cells_at cs row) k ≡ cell_at row k)
        → (if b then cell_at row c else representative_cell cs (cells_at cs row) k) ≡ cell_at row k
    go true e h i = ap (cell_at row) (true-eqb c k (sym e))
    go false e h i = i h

-- Cells of rows with more after them.

past : (xs ys more : List Datum) (k : ℕ) → length xs ≡ length ys → length xs ≤ k
    → cell_at (xs ++ more) k ≡ cell_at (ys ++ more) k
past [] [] more k e h = refl
past [] (y ∷ ys) more k e h = absurd (omega (arith, e))
past (x ∷ xs) [] more k e h = absurd (omega (arith, e))
past (x ∷ xs) (y ∷ ys) more zero e h = absurd (omega (arith, h))
past (x ∷ xs) (y ∷ ys) more (suc k) e h = past xs ys more k (omega (arith, e)) (omega (arith, h))

within : (xs more : List Datum) (k : ℕ) → k < length xs → cell_at (xs ++ more) k ≡ cell_at xs k
within [] more k h = absurd (omega (arith, h))
within (x ∷ xs) more zero h = refl
within (x ∷ xs) more (suc k) h = within xs more k (omega (arith, h))

module _ (n : ℕ) (keys : List ℕ) (row : List Datum) (t : List Key) (wide : length row ≡ n) (keyed : HasKeys keys row)
    (same : tuple_of keys row ≡ t) where
  abbrev stand : List Datum
  stand = representative n keys t

  cells_are : data_of t ≡ cells_at keys row
  cells_are = ap data_of (sym same) ∙ tuple-of-data keys row keyed

  at_key : (k : ℕ) → k < n → list_any (λ j. j == k) keys ≡ true → cell_at row k ≡ cell_at stand k
  at_key k h e =
      let z : 0 + k ≡ k = omega arith in
      sym (cell_stand keys (data_of t) 0 n k h ∙ ap (representative_cell keys (data_of t)) z
      ∙ ap (λ cells. representative_cell keys cells k) cells_are ∙ stands keys row k e)

  known_by : (more : List Datum) (k : ℕ) (b : Bool) → nat_lt k n ≡ b
      → (not b || list_any (λ j. j == k) keys) ≡ true → cell_at (row ++ more) k ≡ cell_at (stand ++ more) k
  known_by more k true e h =
      let below : k < n = ltb-true k n e in
      within row more k (omega (arith, wide, below))
      ∙ at_key k below h
      ∙ sym (within stand more k (omega (arith, length_stand keys (data_of t) 0 n, below)))
  known_by more k false e h =
      let above : n ≤ k = ltb-false k n e in
      past row stand more k (wide ∙ sym (length_stand keys (data_of t) 0 n)) (omega (arith, wide, above))

  pub known : (more : List Datum) (k : ℕ) → is_known n keys k ≡ true → cell_at (row ++ more) k ≡ cell_at (stand ++ more) k
  known more k h = known_by more k (nat_lt k n) refl h

main_within : (n : ℕ) (row more : List Datum) → length row ≡ n → (k : ℕ) → is_main n k ≡ true
    → cell_at (row ++ more) k ≡ cell_at row k
main_within n row more wide k h =
    let below : k < n = ltb-true k n h in within row more k (omega (arith, wide, below))

-- Grouping columns are known.

own_key : (k : ℕ) (ks : List ℕ) → list_any (λ j. j == k) (k ∷ ks) ≡ true
own_key k ks = rw (eq-eqb k k refl) refl

or_right : (a b : Bool) → b ≡ true → (a || b) ≡ true
or_right true b h = refl
or_right false b h = h

module _ (n : ℕ) (on : ℕ) where
  abbrev taken : ℕ → Bool
  taken k = nat_lt k n && not (k == on)

  among_taken : (by : List ℕ) (k : ℕ) → taken k ≡ true → list_any (λ j. j == k) by ≡ true
      → list_any (λ j. j == k) (filter taken by) ≡ true
  among_taken [] k is h = h
  among_taken (b ∷ bs) k is h = go (taken b) refl (b == k) refl h (λ e. among_taken bs k is e)
    where
      go : (c : Bool) → taken b ≡ c → (d : Bool) → (b == k) ≡ d → (d || list_any (λ j. j == k) bs) ≡ true
          → (list_any (λ j. j == k) bs ≡ true → list_any (λ j. j == k) (filter taken bs) ≡ true)
          → list_any (λ j. j == k) (cond c (b ∷ filter taken bs) (filter taken bs)) ≡ true
      go true e true f h rest = ap (λ x. x || list_any (λ j. j == k) (filter taken bs)) f
      go true e false f h rest = or_right (b == k) (list_any (λ j. j == k) (filter taken bs)) (rest h)
      go false e true f h rest =
          absurd (true≢false (sym is ∙ ap taken (sym (true-eqb b k (sym f))) ∙ e))
      go false e false f h rest = rest h

  known_key : (by : List ℕ) (k : ℕ) → list_any (λ j. j == k) by ≡ true → is_known n (on ∷ filter taken by) k ≡ true
  known_key by k h = go (nat_lt k n) refl (k == on) refl
    where
      go : (b : Bool) → nat_lt k n ≡ b → (c : Bool) → (k == on) ≡ c
          → (not b || list_any (λ j. j == k) (on ∷ filter taken by)) ≡ true
      go false e c f = refl
      go true e true f =
          subst (λ (m : ℕ). list_any (λ j. j == m) (on ∷ filter taken by) ≡ true) (sym (true-eqb k on (sym f)))
          (own_key on (filter taken by))
      go true e false f =
          or_right (on == k) (list_any (λ j. j == k) (filter taken by))
          (among_taken by k (rw (e, f) refl) h)

  all_known : (by some : List ℕ) → ((k : ℕ) → list_any (λ j. j == k) some ≡ true → list_any (λ j. j == k) by ≡ true)
      → AllByRecursion (λ k. is_known n (on ∷ filter taken by) k ≡ true) some
  all_known by [] f = tt
  all_known by (k ∷ ks) f = (
    known_key by k (f k (own_key k ks)),
    all_known by ks (λ m h. f m (or_right (k == m) (list_any (λ j. j == m) ks) h)),
  )

tuple_alike : (p : ℕ → Bool) (by : List ℕ) (x y : List Datum)
    → ((k : ℕ) → p k ≡ true → cell_at x k ≡ cell_at y k) → AllByRecursion (λ k. p k ≡ true) by
    → tuple_of by x ≡ tuple_of by y
tuple_alike p [] x y same h = refl
tuple_alike p (k ∷ ks) x y same h =
    ap₂ (λ d ds. d ∷ ds) (ap key_in (same k h.0)) (tuple_alike p ks x y same h.1)

-- Items all pass a test that none of them fails.

all_pass : {X : Type 0} (p : X → Bool) (xs : List X) → not (list_any (λ x. not (p x)) xs) ≡ true
    → AllByRecursion (λ x. p x ≡ true) xs
all_pass p [] h = tt
all_pass p (x ∷ xs) h = go (p x) refl h (λ e. all_pass p xs e)
  where
    go : (b : Bool) → p x ≡ b → not (not b || list_any (λ x. not (p x)) xs) ≡ true
        → (not (list_any (λ x. not (p x)) xs) ≡ true → AllByRecursion (λ x. p x ≡ true) xs)
        → (p x ≡ true) × AllByRecursion (λ x. p x ≡ true) xs
    go true e h rest = (e, rest h)
    go false e h rest = absurd (true≢false (sym h))

pub columns_within : (n : ℕ) (columns : List AccumulatedColumn) → are_main n columns ≡ true → All (λ c. c.column < n) columns
columns_within n columns h =
    All-weaker (λ c. is_main n c.column ≡ true) (λ c. c.column < n) (λ c is. ltb-true c.column n is) columns
    (All-from_recursion (λ c. is_main n c.column ≡ true) columns (all_pass (λ c. is_main n c.column) columns h))

-- The projected rows of a row, and of its representative.

-- The two are left out, or both are in the view, with one grouping tuple, and the first has the cells of the row.
abbrev IsAlike : ℕ → List ℕ → List Datum → Option (List Datum) → Option (List Datum) → Type 0
IsAlike n by row None None = Unit {0}
IsAlike n by row None (Some r) = ⊥
IsAlike n by row (Some made) None = ⊥
IsAlike n by row (Some made) (Some r) =
    (tuple_of by made ≡ tuple_of by r) × ((k : ℕ) → k < n → cell_at made k ≡ cell_at row k)

module _ (n : ℕ) (v : View) (l : Lookup) (by : List ℕ) (columns : List AccumulatedColumn) (side : Side)
    (can : CanSubGroup n v l by columns) where
  abbrev keys : List ℕ
  keys = sub_keys n l by

  decided : AllByRecursion (λ f. is_decided n keys f ≡ true) (conjuncts v.filter)
  decided = all_pass (is_decided n keys) (conjuncts v.filter) can.decided

  module _ (row : List Datum) (t : List Key) (is : IsSubRow n v keys row) (same : tuple_of keys row ≡ t) where
    wide : length row ≡ n
    wide = is.main.wide

    keyed : HasKeys keys row
    keyed = recursion_from_All (λ k. IsKeyCell (cell_at row k)) keys is.main.keyed

    abbrev standing : List Datum
    standing = representative n keys t

    alike_by : (more : List Datum) (a b c : Bool) → a ≡ (true && b) → b ≡ c
        → IsAlike n by row (cond a (Some (row ++ more)) None) (cond c (Some (standing ++ more)) None)
    alike_by more true true true e f = (
      tuple_alike (is_known n keys) by (row ++ more) (standing ++ more) (known n keys row t wide keyed same more)
          (all_known n l.on by by (λ k h. h)),
      λ k below. within row more k (omega (arith, wide, below)),
    )
    alike_by more true true false e f = absurd (true≢false f)
    alike_by more true false c e f = absurd (true≢false e)
    alike_by more false true c e f = absurd (true≢false (sym e))
    alike_by more false false true e f = absurd (true≢false (sym f))
    alike_by more false false false e f = tt

    alike_more : (o : Option (List Datum))
        → IsAlike n by row
        (option_and_then (λ r. cond (passes v.filter r) (Some r) None) (option_map (λ more. row ++ more) o))
        (option_and_then (λ r. cond (passes_others n v.filter r) (Some r) None) (option_map (λ more. standing ++ more) o))
    alike_more None = tt
    alike_more (Some more) =
        alike_by more (passes v.filter (row ++ more)) (passes_others n v.filter (row ++ more))
        (passes_others n v.filter (standing ++ more))
        (passes_both n v.filter (row ++ more)
        ∙ ap (λ b. b && passes_others n v.filter (row ++ more))
        (main_alike n v.filter (row ++ more) row (main_within n row more wide) ∙ is.passes))
        (others_alike n keys v.filter (row ++ more) (standing ++ more) (known n keys row t wide keyed same more) decided)

    alike : IsAlike n by row (passing_row v side row) (representative_row n v side keys t)
    unfolding joined_row
    alike =
        subst (λ (o : Option Lookup). IsAlike n by row
        (option_and_then (λ r. cond (passes v.filter r) (Some r) None) (joined_row o side row))
        (option_and_then (λ r. cond (passes_others n v.filter r) (Some r) None) (joined_row o side standing)))
        (sym can.lookup)
        (subst (λ (d : Datum). IsAlike n by row
        (option_and_then (λ r. cond (passes v.filter r) (Some r) None)
        (option_map (λ more. row ++ more) (or_missing l.missing l.columns (side (cell_at row l.on)))))
        (option_and_then (λ r. cond (passes_others n v.filter r) (Some r) None)
        (option_map (λ more. standing ++ more) (or_missing l.missing l.columns (side d)))))
        (at_key n keys row t wide keyed same l.on can.on (own_key l.on _))
        (alike_more (or_missing l.missing l.columns (side (cell_at row l.on)))))

-- Lists of rows, and their projected rows.

some_is : {X : Type 0} (x y : X) → Some x ≡ Some y → x ≡ y
some_is x y h = cc h

module _ (n : ℕ) (by : List ℕ) (f : List Datum → Option (List Datum)) where
  abbrev Alike : Option (List Datum) → List (List Datum) → Type 0
  Alike place rows = AllByRecursion (λ row. IsAlike n by row (f row) place) rows

  none_made : (rows : List (List Datum)) → Alike None rows → filter_map f rows ≡ []
  none_made [] h = refl
  none_made (row ∷ rows) h = go (f row) h.0 (none_made rows h.1)
    where
      go : (o : Option (List Datum)) → IsAlike n by row o None → filter_map f rows ≡ []
          → cons_option o (filter_map f rows) ≡ []
      go None a rest = rest
      go (Some made) a rest = absurd a

  tuples_made : (r : List Datum) (rows : List (List Datum)) → Alike (Some r) rows
      → AllByRecursion (λ row. tuple_of by row ≡ tuple_of by r) (filter_map f rows)
  tuples_made r [] h = tt
  tuples_made r (row ∷ rows) h = go (f row) h.0 (tuples_made r rows h.1)
    where
      go : (o : Option (List Datum)) → IsAlike n by row o (Some r)
          → AllByRecursion (λ row. tuple_of by row ≡ tuple_of by r) (filter_map f rows)
          → AllByRecursion (λ row. tuple_of by row ≡ tuple_of by r) (cons_option o (filter_map f rows))
      go None a rest = absurd a
      go (Some made) a rest = (a.0, rest)

  length_made : (r : List Datum) (rows : List (List Datum)) → Alike (Some r) rows
      → length (filter_map f rows) ≡ length rows
  length_made r [] h = refl
  length_made r (row ∷ rows) h = go (f row) h.0 (length_made r rows h.1)
    where
      go : (o : Option (List Datum)) → IsAlike n by row o (Some r) → length (filter_map f rows) ≡ length rows
          → length (cons_option o (filter_map f rows)) ≡ suc (length rows)
      go None a rest = absurd a
      go (Some made) a rest = ap suc rest

  cells_made : (r : List Datum) (k : ℕ) → k < n → (rows : List (List Datum)) → Alike (Some r) rows
      → cells k (filter_map f rows) ≡ cells k rows
  cells_made r k below [] h = refl
  cells_made r k below (row ∷ rows) h = go (f row) h.0 (cells_made r k below rows h.1)
    where
      go : (o : Option (List Datum)) → IsAlike n by row o (Some r)
          → cells k (filter_map f rows) ≡ cells k rows
          → cells k (cons_option o (filter_map f rows)) ≡ cell_at row k ∷ cells k rows
      go None a rest = absurd a
      go (Some made) a rest = ap₂ (λ d ds. d ∷ ds) (a.1 k below) rest

  kept_made :
      (r : List Datum) (columns : List AccumulatedColumn) → All (λ c. c.column < n) columns → (rows : List (List Datum))
      → Alike (Some r) rows → (g : GroupCounts) → KeepsRows columns g rows → KeepsRows columns g (filter_map f rows)
  kept_made r columns all rows h g keeps = record {
    rows_are = keeps.rows_are ∙ sym (length_made r rows h);
    tallies_are = record {
      count = keeps.tallies_are.count;
      each =
          λ i c d below.
          subst
          (λ (ds : List Datum). KeepsCells (slice_index_or columns i c).form (slice_index_or g.tallies i d) ds)
          (sym (cells_made r (slice_index_or columns i c).column (all i c below) rows h))
          (keeps.tallies_are.each i c d below);
    };
  }

  some_place : (columns : List AccumulatedColumn) → All (λ c. c.column < n) columns → (place : Option (List Datum))
      → (rows : List (List Datum)) → Alike place rows → ArePlaced by columns place rows (filter_map f rows)
  some_place columns all None rows h = record {
    none = λ e. none_made rows h;
    some = λ r e. absurd (none-some r e);
    kept = λ e. absurd (true≢false (sym e));
  }
  some_place columns all (Some r) rows h = record {
    none = λ e. absurd (none-some r (sym e));
    some =
        λ s e.
        let Q : List Datum → Type 0 = λ x. All (λ row. tuple_of by row ≡ tuple_of by x) (filter_map f rows) in
        subst Q (some_is r s e)
        (All-from_recursion (λ row. tuple_of by row ≡ tuple_of by r) (filter_map f rows) (tuples_made r rows h));
    kept = λ e g keeps. kept_made r columns all rows h g keeps;
  }

-- The members of a sub-group

members_alike :
    (n : ℕ) (v : View) (l : Lookup) (by : List ℕ) (columns : List AccumulatedColumn) (side : Side) (t : List Key)
    → CanSubGroup n v l by columns → (rows : List (List Datum))
    → AllByRecursion (IsSubRow n v (sub_keys n l by)) rows
    → Alike n by (passing_row v side) (representative_row n v side (sub_keys n l by) t) (members (sub_keys n l by) t rows)
members_alike n v l by columns side t can [] h = tt
members_alike n v l by columns side t can (row ∷ rows) h =
    go (has_tuple (sub_keys n l by) t row) refl (members_alike n v l by columns side t can rows h.1)
  where
    place : Option (List Datum)
    place = representative_row n v side (sub_keys n l by) t

    go : (b : Bool) → has_tuple (sub_keys n l by) t row ≡ b
        → Alike n by (passing_row v side) place (members (sub_keys n l by) t rows)
        → Alike n by (passing_row v side) place
        (cond b (row ∷ members (sub_keys n l by) t rows) (members (sub_keys n l by) t rows))
    go true e rest = (
      alike n v l by columns side can row t h.0 (sym (same_tuple t (tuple_of (sub_keys n l by) row) e)),
      rest,
    )
    go false e rest = rest

pub sub_groups_placed : SubGroupsArePlaced
sub_groups_placed n v l by columns side rows t can are =
    some_place n by (passing_row v side) columns (columns_within n columns can.of_main) (representative_row n v side (sub_keys n l by) t)
    (members (sub_keys n l by) t rows)
    (members_alike n v l by columns side t can rows (recursion_from_All (IsSubRow n v (sub_keys n l by)) rows are))

-- Rows in no sub-group

pub others_left_out : OthersAreLeftOut
unfolding joined_row
others_left_out n v side row wide fails = go v.lookup
  where
    left : (r : List Datum) → passes_main n v.filter r ≡ false → cond (passes v.filter r) (Some r) None ≡ None
    left r h =
        ap (λ b. cond b (Some r) None)
        (passes_both n v.filter r ∙ ap (λ b. b && passes_others n v.filter r) h)

    by_more : (o : Option (List Datum))
        → option_and_then (λ r. cond (passes v.filter r) (Some r) None) (option_map (λ more. row ++ more) o) ≡ None
    by_more None = refl
    by_more (Some more) =
        left (row ++ more) (main_alike n v.filter (row ++ more) row (main_within n row more wide) ∙ fails)

    go : (o : Option Lookup)
        → option_and_then (λ r. cond (passes v.filter r) (Some r) None) (joined_row o side row) ≡ None
    go None = left row fails
    go (Some l) = by_more (or_missing l.missing l.columns (side (cell_at row l.on)))

pub ruleset placing_laws = (sub_groups_placed, others_left_out)
