-- Rows that are read of groups are the group rows of the definition.
use Rattle.std.proofs.Common.{◌≡◌, refl, ap, ap₂, sym, ◌∙◌, subst, arith, true≢false, get_or}
use Rattle.std.specs.Prelude.{
  ℕ,
  zero,
  suc,
  ◌<◌,
  Bool,
  true,
  false,
  cond,
  ◌||◌,
  List,
  [],
  ◌∷◌,
  map,
  filter,
  length,
  Option,
  None,
  Some,
  is_some,
}
use Rattle.std.specs.declared.cmp.Ordering.TheVariants.{Less}
use Rattle.std.specs.Ordering.{is_eq}
use Rattle.std.specs.List.{AllByRecursion, list_any, Contains}
use Rattle.std.specs.List.Sorted.{IsStrictlySortedBy}
use Rattle.std.specs.Map.{lookup, keys_of}
use Rattle.std.specs.BTreeMap.{is_at}
use Rattle.values.specs.Datum.{Datum}
use Rattle.values.specs.declared.key.Key.{Key}
use Rattle.view_lang.specs.Cells.{cells_at}
use Rattle.view_lang.specs.RowOrder.{tuple_cmp as data_cmp}
use Rattle.view_lang.specs.Groups.{same_tuple, tuples_of, rows_with, group_row, group_rows}
use Rattle.view_lang.specs.ViewLaws.{TuplesAsk, TuplesAscend, TuplesAreOfRows, UsesKeys}
use Rattle.view_lang.specs.Aggregates.{IsKeyCell}
use Rattle.view_lang.specs.Outputs.{GroupOutput}
use Rattle.group_state.specs.Keys.{key_in, tuple_cmp, tuple_total, data_of}
use Rattle.group_state.specs.GroupCounts.{GroupCounts}
use Rattle.group_state.specs.Grouped.{Grouped}
use Rattle.group_state.specs.declared.accumulated_columns.AccumulatedColumn.{AccumulatedColumn}
use Rattle.group_state.specs.Rows.{KeepsRows}
use Rattle.group_state.specs.Tuples.{has_tuple, members}
use Rattle.group_state.specs.Groups.{Keeps, KeepsAt}
use Rattle.group_state.specs.Reading.{IsRead, AreRead, CanReadAll}
use Rattle.group_state.proofs.KeyData.{HasKeys, tuple-data, cell-data, test-data, members-data}
use Rattle.group_state.proofs.Members.{tuple_exact, tuple_itself}
use Rattle.view_lang.proofs.AscendingKeys.{same-keys}
use Rattle.view_lang.proofs.OwnEntries.{HasOwn, own-entries, any-lookup}
use Rattle.group_state.proofs.Readable.{can-read}

weaker : {X : Type 0} (P Q : X → Type 0) → ((x : X) → P x → Q x) → (xs : List X) → AllByRecursion P xs
    → AllByRecursion Q xs
weaker P Q f [] a = tt
weaker P Q f (x ∷ xs) a = (f x a.0, weaker P Q f xs a.1)

all-of : {X : Type 0} (P : X → Type 0) (xs : List X) → ((x : X) → Contains xs x → P x) → AllByRecursion P xs
all-of P [] h = tt
all-of P (x ∷ xs) h = (h x (0, omega arith, refl), all-of P xs (λ y c. h y (suc c.0, omega (arith, c.1), c.2)))

by-index : {X Y : Type 0} (f : X → Y) (P : Y → Type 0) (xs : List X) → AllByRecursion (λ x. P (f x)) xs
    → (y : Y) (n : ℕ) → n < length (map f xs) → get_or (map f xs) n y ≡ y → P y
by-index f P [] a y n b e = absurd (omega (arith, b))
by-index f P (x ∷ xs) a y zero b e = subst P e a.0
by-index f P (x ∷ xs) a y (suc n) b e = by-index f P xs a.1 y n (omega (arith, b)) e

filter-none : {X : Type 0} (p : X → Bool) (xs : List X) → filter p xs ≡ [] → list_any p xs ≡ false
filter-none p [] h = refl
filter-none {X} p (x ∷ xs) h = go (p x) h (filter-none p xs)
  where
    go : (b : Bool) → cond b (x ∷ filter p xs) (filter p xs) ≡ [] → (filter p xs ≡ [] → list_any p xs ≡ false)
        → (b || list_any p xs) ≡ false
    go true e i = absurd (cc)
    go false e i = i e

filter-some : {X : Type 0} (p : X → Bool) (xs : List X) → 0 < length (filter p xs) → list_any p xs ≡ true
filter-some p [] h = absurd (omega (arith, h))
filter-some {X} p (x ∷ xs) h = go (p x) h (filter-some p xs)
  where
    go : (b : Bool) → 0 < length (cond b (x ∷ filter p xs) (filter p xs))
        → (0 < length (filter p xs) → list_any p xs ≡ true) → (b || list_any p xs) ≡ true
    go true e i = refl
    go false e i = i e

any-rows : (by : List ℕ) (t : List Key) (rows : List (List Datum)) → AllByRecursion (HasKeys by) rows
    → list_any (has_tuple by t) rows ≡ list_any (same_tuple (data_of t)) (map (cells_at by) rows)
any-rows by t [] h = refl
any-rows by t (r ∷ rs) h = ap₂ (λ a b. a || b) (test-data by t r h.0) (any-rows by t rs h.1)

any-data : (t : List Key) (ks : List (List Key)) → list_any (is_at (tuple_cmp t)) ks
    ≡ list_any (same_tuple (data_of t)) (map data_of ks)
any-data t [] = refl
any-data t (k ∷ ks) = ap₂ (λ a b. a || b) (ap is_eq (tuple-data t k)) (any-data t ks)

below-data : (k : List Key) (ks : List (List Key)) → AllByRecursion (λ y. data_cmp (data_of k) y ≡ Less)
    (map data_of ks) → AllByRecursion (λ y. tuple_cmp k y ≡ Less) ks
below-data k [] a = tt
below-data k (x ∷ xs) a = (tuple-data k x ∙ a.0, below-data k xs a.1)

sorted-data : (ks : List (List Key)) → IsStrictlySortedBy data_cmp (map data_of ks) → IsStrictlySortedBy tuple_cmp ks
unfolding IsStrictlySortedBy
sorted-data [] s = tt
sorted-data (k ∷ ks) s = (below-data k ks s.0, sorted-data ks s.1)

back : (t : List Datum) → AllByRecursion IsKeyCell t → data_of (map key_in t) ≡ t
back [] a = refl
back (d ∷ ds) a = ap₂ (λ x xs. x ∷ xs) (cell-data d a.0) (back ds a.1)

all-back : (ts : List (List Datum)) → AllByRecursion (λ t. AllByRecursion IsKeyCell t) ts
    → map data_of (map (λ t. map key_in t) ts) ≡ ts
all-back [] a = refl
all-back (t ∷ ts) a = ap₂ (λ x xs. x ∷ xs) (back t a.0) (all-back ts a.1)

own-cells : (by : List ℕ) (row : List Datum) → HasKeys by row → AllByRecursion IsKeyCell (cells_at by row)
own-cells [] row h = tt
own-cells (k ∷ ks) row h = (h.0, own-cells ks row h.1)

const-any : (b : Bool) (r : List Datum) (rs : List (List Datum)) → list_any (λ (row : List Datum). b) (r ∷ rs)
    ≡ (b || false)
const-any true r rs = refl
const-any false r [] = refl
const-any false r (x ∷ xs) = const-any false x xs

module _ (columns : List AccumulatedColumn) (groups : List (List Key × GroupCounts)) (rows : List (List Datum)) where
  abbrev KeepsBy : List ℕ → Type 0
  KeepsBy by = Keeps (record { keys = by; columns = columns; groups = groups }) rows

  at-any : (by : List ℕ) (t : List Key) (l : Option GroupCounts) → KeepsAt columns (members by t rows) l
      → is_some l ≡ list_any (has_tuple by t) rows
  at-any by t None h = sym (filter-none (has_tuple by t) rows h)
  at-any by t (Some g) h = sym (filter-some (has_tuple by t) rows (subst (λ n. 0 < n) h.1.rows_are h.0))

  any-groups : (by : List ℕ) → KeepsBy by → (t : List Key) → list_any (is_at (tuple_cmp t)) (keys_of groups)
      ≡ list_any (has_tuple by t) rows
  any-groups by k t = any-lookup tuple_cmp tuple_total t groups ∙ at-any by t (lookup (is_at (tuple_cmp t)) groups)
      (k.groups_are t)

  module _ (ask : TuplesAsk) (ascend : TuplesAscend) (of_rows : TuplesAreOfRows) where
    tuples-of-keys : IsStrictlySortedBy tuple_cmp (keys_of groups) → (j : ℕ) (js : List ℕ) → KeepsBy (j ∷ js)
        → AllByRecursion (HasKeys (j ∷ js)) rows → map data_of (keys_of groups) ≡ tuples_of (j ∷ js) rows
    tuples-of-keys o j js k h =
        let by : List ℕ = j ∷ js in
        let ts : List (List Datum) = tuples_of by rows in
        let keyed = weaker (HasKeys by) (λ row. AllByRecursion IsKeyCell (cells_at by row)) (own-cells by) rows h in
        let cells-keyed : AllByRecursion (λ t. AllByRecursion IsKeyCell t) ts =
        all-of (λ t. AllByRecursion IsKeyCell t) ts (λ t c. let m = of_rows j js rows t c in
        by-index (cells_at by) (λ t. AllByRecursion IsKeyCell t) rows keyed t m.0 m.1 m.2) in
        let ks : List (List Key) = map (λ t. map key_in t) ts in
        let there : map data_of ks ≡ ts = all-back ts cells-keyed in
        let up = sorted-data ks (subst (IsStrictlySortedBy data_cmp) (sym there) (ascend by rows)) in
        let alike : (t : List Key) → list_any (is_at (tuple_cmp t)) (keys_of groups)
        ≡ list_any (is_at (tuple_cmp t)) ks =
        λ t. any-groups by k t ∙ any-rows by t rows h ∙ sym (ask j js rows (data_of t))
        ∙ ap (list_any (same_tuple (data_of t))) (sym there) ∙ sym (any-data t ks) in
        ap (map data_of) (same-keys tuple_total tuple_exact (keys_of groups) ks o up alike) ∙ there

  -- without grouping columns
  row-there : KeepsBy [] → 0 < length groups → list_any (has_tuple [] []) rows ≡ true
  row-there k p = go groups p (λ t. any-groups [] k t)
    where
      go : (es : List (List Key × GroupCounts)) → 0 < length es
          → ((t : List Key) → list_any (is_at (tuple_cmp t)) (keys_of es) ≡ list_any (has_tuple [] t) rows)
          → list_any (has_tuple [] []) rows ≡ true
      go [] p h = absurd (omega (arith, p))
      go (e ∷ es) p h =
          any-own rows (sym (h e.0) ∙ ap (λ b. b || list_any (is_at (tuple_cmp e.0)) (keys_of es)) (tuple_itself e.0))
        where
          any-own : (rs : List (List Datum)) → list_any (has_tuple [] e.0) rs ≡ true
              → list_any (has_tuple [] []) rs ≡ true
          any-own [] x = x
          any-own (r ∷ rs) x = refl

  none-tuple : (rs : List (List Datum)) → list_any (has_tuple [] []) rs ≡ true → (t : List Key)
      → list_any (has_tuple [] t) rs ≡ list_any (is_at (tuple_cmp t)) ([] ∷ [])
  none-tuple [] h t = absurd (true≢false (sym h))
  none-tuple (r ∷ rs) h t = const-any (is_at (tuple_cmp t) []) r rs

  tuples-of-none : IsStrictlySortedBy tuple_cmp (keys_of groups) → KeepsBy [] → 0 < length groups
      → map data_of (keys_of groups) ≡ tuples_of [] rows
  unfolding tuples_of IsStrictlySortedBy
  tuples-of-none o k p =
      let there = row-there k p in
      ap (map data_of)
      (same-keys tuple_total tuple_exact (keys_of groups) ([] ∷ []) o (tt, tt)
      (λ t. any-groups [] k t ∙ none-tuple rows there t))

  module _ (outs : List GroupOutput) where
    made-is : (by : List ℕ) → KeepsBy by → CanReadAll by columns outs rows
        → (es : List (List Key × GroupCounts)) (rs : List (List Datum)) → AreRead columns outs es rs
        → AllByRecursion (HasOwn tuple_cmp tuple_total groups) es
        → rs ≡ map (λ e. group_row outs (data_of e.0) (members by e.0 rows)) es
    made-is by k c [] [] a b = refl
    made-is by k c [] (r ∷ rs) a b = absurd a
    made-is by k c (e ∷ es) [] a b = absurd a
    made-is by k c (e ∷ es) (r ∷ rs) a b =
        let P : Option GroupCounts → Type 0 = λ x. KeepsAt columns (members by e.0 rows) x in
        let kept : KeepsRows columns e.1 (members by e.0 rows) = (subst P b.0 (k.groups_are e.0)).1 in
        ap₂ (λ x xs. x ∷ xs)
        (a.0.row_is (members by e.0 rows) kept (can-read by columns outs rows c (has_tuple by e.0)))
        (made-is by k c es rs a.1 b.1)

    rows-by-keys : (by : List ℕ) → AllByRecursion (HasKeys by) rows → (es : List (List Key × GroupCounts))
        → map (λ e. group_row outs (data_of e.0) (members by e.0 rows)) es
        ≡ map (λ t. group_row outs t (rows_with by t rows)) (map data_of (keys_of es))
    rows-by-keys by h [] = refl
    rows-by-keys by h (e ∷ es) = ap₂ (λ x xs. x ∷ xs) (ap (group_row outs (data_of e.0)) (members-data by e.0 rows h))
        (rows-by-keys by h es)

    module _ (ask : TuplesAsk) (ascend : TuplesAscend) (of_rows : TuplesAreOfRows) where
      tuples-are : IsStrictlySortedBy tuple_cmp (keys_of groups) → (by : List ℕ) → KeepsBy by
          → AllByRecursion (HasKeys by) rows → ((length by ≡ 0) × (length groups ≡ 0) → ⊥)
          → map data_of (keys_of groups) ≡ tuples_of by rows
      tuples-are o [] k h n = tuples-of-none o k (filled-by groups (λ e. n (refl, e)))
        where
          filled-by : (es : List (List Key × GroupCounts)) → (length es ≡ 0 → ⊥) → 0 < length es
          filled-by [] f = absurd (f refl)
          filled-by (e ∷ es) f = omega arith
      tuples-are o (j ∷ js) k h n = tuples-of-keys ask ascend of_rows o j js k h

      rows-are-read : IsStrictlySortedBy tuple_cmp (keys_of groups) → (by : List ℕ) (rs : List (List Datum))
          → AreRead columns outs groups rs → ((length by ≡ 0) × (length groups ≡ 0) → ⊥) → KeepsBy by
          → CanReadAll by columns outs rows → rs ≡ group_rows by outs rows
      unfolding group_rows
      rows-are-read o by rs a n k c =
          let keys = weaker (UsesKeys by outs) (HasKeys by) (λ row u. u.0) rows c.keys in
          made-is by k c groups rs a (own-entries tuple_cmp tuple_total groups o) ∙ rows-by-keys by keys groups
          ∙ ap (map (λ t. group_row outs t (rows_with by t rows))) (tuples-are o by k keys n)

bare-row : (columns : List AccumulatedColumn) (outs : List GroupOutput) (g : GroupCounts) (r : List Datum)
    → IsRead columns outs ([], g) r → KeepsRows columns g [] → (by : List ℕ) (es : List (List Key × GroupCounts))
    (rows : List (List Datum))
    → (length by ≡ 0) × (length es ≡ 0) → Keeps (record { keys = by; columns = columns; groups = es }) rows
    → CanReadAll by columns outs rows → r ∷ [] ≡ group_rows by outs rows
unfolding group_rows tuples_of rows_with
bare-row columns outs g r a e (j ∷ js) es rows n k c = absurd (omega (arith, n.0))
bare-row columns outs g r a e [] (x ∷ es) rows n k c = absurd (omega (arith, n.1))
bare-row columns outs g r a e [] [] (x ∷ rows) n k c =
    absurd (true≢false (sym (any-groups columns [] (x ∷ rows) [] k [])))
bare-row columns outs g r a e [] [] [] n k c =
    ap (λ x. x ∷ []) (a.row_is [] e (can-read [] columns outs [] c (λ row. true)))

module _ (s : Grouped) (outs : List GroupOutput) (rows : List (List Datum)) (k : Keeps s rows)
    (c : CanReadAll s.keys s.columns outs rows) where
  pub bare-read : (c1 c2 : List AccumulatedColumn) (t : List Key) (g : GroupCounts) (r : List Datum) (made : List (List Datum))
      → c1 ≡ s.columns → c2 ≡ s.columns → t ≡ [] → KeepsRows c1 g [] → IsRead c2 outs (t, g) r
      → (length s.keys ≡ 0) × (length s.groups ≡ 0) → made ≡ r ∷ [] → made ≡ group_rows s.keys outs rows
  bare-read c1 c2 t g r made e1 e2 e3 kept a n pushed =
      let P : List AccumulatedColumn → Type 0 = λ x. KeepsRows x g [] in
      let Q : List AccumulatedColumn → Type 0 = λ x. IsRead x outs (t, g) r in
      let R : List Key → Type 0 = λ x. IsRead s.columns outs (x, g) r in
      pushed ∙ bare-row s.columns outs g r (subst R e3 (subst Q e2 a)) (subst P e1 kept) s.keys s.groups rows n k c

  pub all-read : TuplesAsk → TuplesAscend → TuplesAreOfRows → (cs : List AccumulatedColumn) (es : List (List Key × GroupCounts))
      (made : List (List Datum)) → cs ≡ s.columns → es ≡ s.groups → IsStrictlySortedBy tuple_cmp (keys_of es)
      → AreRead cs outs es made
      → ((length s.keys ≡ 0) × (length s.groups ≡ 0) → ⊥) → made ≡ group_rows s.keys outs rows
  all-read ask ascend of_rows cs es made e1 e2 o a n =
      let P : List AccumulatedColumn → Type 0 = λ x. AreRead x outs es made in
      let Q : List (List Key × GroupCounts) → Type 0 = λ x. AreRead s.columns outs x made in
      let R : List (List Key × GroupCounts) → Type 0 = λ x. IsStrictlySortedBy tuple_cmp (keys_of x) in
      rows-are-read s.columns s.groups rows outs ask ascend of_rows (subst R e2 o) s.keys made
      (subst Q e2 (subst P e1 a)) n k c
