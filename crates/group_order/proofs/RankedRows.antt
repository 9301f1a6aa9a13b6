-- The rows of the entries' groups are the definition's group rows.
use Rattle.std.proofs.Common.{◌≡◌, zero, suc, false, refl, ap, ap₂, sym, ◌∙◌, subst, arith, get_or, length, true≢false}
use Rattle.std.specs.Prelude.{◌+◌, ℕ, Bool, true, cond, filter, List, [], ◌∷◌, map, Option, None, Some, take}
use Rattle.std.specs.BTreeMap.{is_at}
use Rattle.std.specs.Cmp.{Equal-is, eq_by_cmp_equiv}
use Rattle.std.specs.declared.cmp.Ordering.TheVariants.{Less}
use Rattle.std.specs.List.{AllByRecursion, cons_option, filter_map}
use Rattle.std.specs.List.Sorted.{IsStrictlySortedBy}
use Rattle.std.specs.Map.{keys_of, lookup, values_of}
use Rattle.std.specs.Option.{option_map}
use Rattle.values.specs.Datum.{Datum}
use Rattle.values.specs.declared.key.Key.{Key}
use Rattle.view_lang.specs.Cells.{cell_at}
use Rattle.std.proofs.lemmas.Bool.{lt-ltb}
use Rattle.std.proofs.lemmas.List.{take_all}
use Rattle.std.proofs.lemmas.Map.{lookup-none}
use Rattle.std.proofs.lemmas.Map.Entries.{none_past_head}
use Rattle.std.proofs.lemmas.Map.Keys.{IsDistinct-from_sorted}
use Rattle.view_lang.specs.Filter.{Filter}
use Rattle.view_lang.specs.Groups.{group_row, group_rows, rows_with, tuples_of}
use Rattle.view_lang.specs.Outputs.{GroupOutput}
use Rattle.view_lang.specs.RowOrder.{row_cmp}
use Rattle.view_lang.specs.Sorted.{placed, sorted}
use Rattle.view_lang.specs.Truth.{passes}
use Rattle.view_lang.specs.ViewLaws.{TuplesAsk, TuplesAscend, TuplesAreOfRows}
use Rattle.view_lang.specs.Aggregates.{IsKeyCell}
use Rattle.view_lang.specs.declared.view.OrderBy.{OrderBy}
use Rattle.group_state.specs.GroupCounts.{GroupCounts}
use Rattle.group_state.specs.Grouped.{Grouped}
use Rattle.group_state.specs.Groups.{Keeps as KeepsGroups, KeepsAt}
use Rattle.group_state.specs.Keys.{tuple_cmp, tuple_total}
use Rattle.group_state.specs.Reading.{AreRead, CanReadAll}
use Rattle.group_state.specs.Aggregates.{seen_at, seen_row}
use Rattle.group_state.specs.declared.accumulated_columns.AccumulatedColumn.{AccumulatedColumn}
use Rattle.group_state.proofs.AggregateCases.{one-cell}
use Rattle.group_state.proofs.GroupLaw.{all-read}
use Rattle.group_state.proofs.Members.{tuple_exact}
use Rattle.group_state.proofs.Seen.{seen-read}
use Rattle.top_rows.specs.Ties.{has_sort_keys, named, stands_by}
use Rattle.top_rows.specs.ViewOrder.{OrdersKeys}
use Rattle.top_rows.proofs.Ties.{first-named, keeps-same}
use Rattle.group_order.specs.GroupEntries.{GroupEntry, group_entry_cmp}
use Rattle.group_order.specs.Ranked.{Keeps, Ranked, Ranking, has_entries, if_passing, placed_at, ranked_rows, ranking_by, shown_at}

-- What is shown of groups is neither a list nor a struct.

each-cell : (columns : List AccumulatedColumn) (outs : List GroupOutput) (e : List Key × GroupCounts) (k : ℕ)
    → IsKeyCell (cell_at (seen_row columns outs e) k)
each-cell columns [] e k = refl
each-cell columns (o ∷ os) e zero = one-cell columns e o.aggregate
each-cell columns (o ∷ os) e (suc k) = each-cell columns os e k

ordered-cells : (columns : List AccumulatedColumn) (outs : List GroupOutput) (e : List Key × GroupCounts) (order : List OrderBy)
    → OrdersKeys order (seen_row columns outs e)
ordered-cells columns outs e [] = tt
ordered-cells columns outs e (o ∷ os) = (each-cell columns outs e o.column, ordered-cells columns outs e os)

module _ (columns : List AccumulatedColumn) (outs : List GroupOutput) where
  -- the rows that are shown of groups, by their tuples
  abbrev pub shown : List (List Key × GroupCounts) → List (List Key × List Datum)
  shown es = map (λ e. (e.0, seen_row columns outs e)) es

  shown-keys : (es : List (List Key × GroupCounts)) → keys_of (shown es) ≡ keys_of es
  shown-keys [] = refl
  shown-keys (e ∷ es) = ap (λ ks. e.0 ∷ ks) (shown-keys es)

  shown-read : (es : List (List Key × GroupCounts)) → AreRead columns outs es (values_of (shown es))
  shown-read [] = tt
  shown-read (e ∷ es) = (seen-read columns outs e (seen_row columns outs e) refl, shown-read es)

  shown-ordered : (order : List OrderBy) (es : List (List Key × GroupCounts))
      → AllByRecursion (λ e. OrdersKeys order e.1) (shown es)
  shown-ordered order [] = tt
  shown-ordered order (e ∷ es) = (ordered-cells columns outs e order, shown-ordered order es)

  shown-at : (t : List Key) (es : List (List Key × GroupCounts))
      → option_map (λ c. seen_row columns outs (t, c)) (lookup (is_at (tuple_cmp t)) es)
      ≡ named tuple_cmp (shown es) t
  shown-at t [] = refl
  shown-at t (e ∷ es) = go (is_at (tuple_cmp t) e.0) refl (shown-at t es)
    where
      go : (b : Bool) → is_at (tuple_cmp t) e.0 ≡ b
          → option_map (λ c. seen_row columns outs (t, c)) (lookup (is_at (tuple_cmp t)) es)
          ≡ named tuple_cmp (shown es) t
          → option_map (λ c. seen_row columns outs (t, c)) (cond b (Some e.1) (lookup (is_at (tuple_cmp t)) es))
          ≡ cond b (Some (seen_row columns outs e)) (named tuple_cmp (shown es) t)
      go true h rest =
          ap (λ x. Some (seen_row columns outs (x, e.1))) (tuple_exact t e.0 ((Equal-is (tuple_cmp t e.0)).0 h))
      go false h rest = rest

abbrev tail_of : {X : Type 0} → List X → List X
tail_of [] = []
tail_of (x ∷ xs) = xs

-- a row that is shown is that of the group
passed-is : (having : Option Filter) (o : Option (List Datum)) (row : List Datum) → if_passing having o ≡ Some row
    → o ≡ Some row
passed-is having None row h = h
passed-is having (Some x) row h = either (passes having x) h
  where
    either : (b : Bool) → cond b (Some x) None ≡ Some row → Some x ≡ Some row
    either true e = e
    either false e = absurd (cc)

made-of : (having : Option Filter) (at : List Key → Option (List Datum)) (es : List GroupEntry)
    (rows : List (List Datum)) → map (λ t. if_passing having (at t)) (map (λ p. p.1) es) ≡ map Some rows
    → filter_map (λ p. at p.1) es ≡ rows
made-of having at [] [] h = refl
made-of having at [] (r ∷ rs) h = absurd (omega (arith, ap length h))
made-of having at (e ∷ es) [] h = absurd (omega (arith, ap length h))
made-of having at (e ∷ es) (r ∷ rs) h =
    let here : at e.1 ≡ Some r = passed-is having (at e.1) r (ap (λ l. get_or l 0 None) h) in
    ap (λ o. cons_option o (filter_map (λ p. at p.1) es)) here
    ∙ ap (λ l. r ∷ l) (made-of having at es rs (ap tail_of h))

map-same : {X Y : Type 0} (f g : X → Y) → ((x : X) → f x ≡ g x) → (xs : List X) → map f xs ≡ map g xs
map-same f g h [] = refl
map-same f g h (x ∷ xs) = ap₂ (λ y ys. y ∷ ys) (h x) (map-same f g h xs)

-- The rows that pass a filter, with their tuples.

abbrev pub passing : Option Filter → List (List Key × List Datum) → List (List Key × List Datum)
passing having es = filter (λ e. passes having e.1) es

passing-above : (having : Option Filter) (t : List Key) (es : List (List Key × List Datum))
    → AllByRecursion (λ u. tuple_cmp t u ≡ Less) (keys_of es)
    → AllByRecursion (λ u. tuple_cmp t u ≡ Less) (keys_of (passing having es))
passing-above having t [] h = tt
passing-above having t (e ∷ es) h = either (passes having e.1) (passing-above having t es h.1)
  where
    either : (b : Bool) → AllByRecursion (λ u. tuple_cmp t u ≡ Less) (keys_of (passing having es))
        → AllByRecursion (λ u. tuple_cmp t u ≡ Less) (keys_of (cond b (e ∷ passing having es) (passing having es)))
    either true rest = (h.0, rest)
    either false rest = rest

passing-ascends : (having : Option Filter) (es : List (List Key × List Datum))
    → IsStrictlySortedBy tuple_cmp (keys_of es) → IsStrictlySortedBy tuple_cmp (keys_of (passing having es))
unfolding IsStrictlySortedBy
passing-ascends having [] h = tt
passing-ascends having (e ∷ es) h = either (passes having e.1) (passing-ascends having es h.1)
  where
    either : (b : Bool) → IsStrictlySortedBy tuple_cmp (keys_of (passing having es))
        → IsStrictlySortedBy tuple_cmp (keys_of (cond b (e ∷ passing having es) (passing having es)))
    either true rest = (passing-above having e.0 es h.0, rest)
    either false rest = rest

passing-ordered : (having : Option Filter) (order : List OrderBy) (es : List (List Key × List Datum))
    → AllByRecursion (λ e. OrdersKeys order e.1) es → AllByRecursion (λ e. OrdersKeys order e.1) (passing having es)
passing-ordered having order [] h = tt
passing-ordered having order (e ∷ es) h = either (passes having e.1) (passing-ordered having order es h.1)
  where
    either : (b : Bool) → AllByRecursion (λ e. OrdersKeys order e.1) (passing having es)
        → AllByRecursion (λ e. OrdersKeys order e.1) (cond b (e ∷ passing having es) (passing having es))
    either true rest = (h.0, rest)
    either false rest = rest

passing-rows : (having : Option Filter) (es : List (List Key × List Datum))
    → values_of (passing having es) ≡ filter (passes having) (values_of es)
passing-rows having [] = refl
passing-rows having (e ∷ es) = either (passes having e.1) (passing-rows having es)
  where
    either : (b : Bool) → values_of (passing having es) ≡ filter (passes having) (values_of es)
        → values_of (cond b (e ∷ passing having es) (passing having es))
        ≡ cond b (e.1 ∷ filter (passes having) (values_of es)) (filter (passes having) (values_of es))
    either true rest = ap (λ rows. e.1 ∷ rows) rest
    either false rest = rest

-- no later tuple is the same
none-later : (t : List Key) (e : List Key × List Datum) (es : List (List Key × List Datum))
    → IsStrictlySortedBy tuple_cmp (keys_of (e ∷ es)) → is_at (tuple_cmp t) e.0 ≡ true → named tuple_cmp es t ≡ None
none-later t e es up here =
    lookup-none (is_at (tuple_cmp t)) es
    (none_past_head (eq_by_cmp_equiv tuple_total) t e es (IsDistinct-from_sorted tuple_cmp (keys_of (e ∷ es)) up) here)

passing-at : (having : Option Filter) (t : List Key) (es : List (List Key × List Datum))
    → IsStrictlySortedBy tuple_cmp (keys_of es)
    → if_passing having (named tuple_cmp es t) ≡ named tuple_cmp (passing having es) t
unfolding IsStrictlySortedBy
passing-at having t [] up = refl
passing-at having t (e ∷ es) up =
    either (is_at (tuple_cmp t) e.0) refl (passes having e.1) refl (passing-at having t es up.1)
  where
    either : (a : Bool) → is_at (tuple_cmp t) e.0 ≡ a → (b : Bool) → passes having e.1 ≡ b
        → if_passing having (named tuple_cmp es t) ≡ named tuple_cmp (passing having es) t
        → if_passing having (cond a (Some e.1) (named tuple_cmp es t))
        ≡ named tuple_cmp (cond b (e ∷ passing having es) (passing having es)) t
    either true x true y rest =
        ap (λ (b : Bool). cond b (Some e.1) None) y
        ∙ sym (ap (λ (a : Bool). cond a (Some e.1) (named tuple_cmp (passing having es) t)) x)
    either true x false y rest =
        ap (λ (b : Bool). cond b (Some e.1) None) y
        ∙ sym (ap (if_passing having) (none-later t e es up x)) ∙ rest
    either false x true y rest =
        rest ∙ sym (ap (λ (a : Bool). cond a (Some e.1) (named tuple_cmp (passing having es) t)) x)
    either false x false y rest = rest

-- The rows of the entries' groups are the group rows that pass, sorted, with ties broken by their tuples.
ranked-read : TuplesAsk → TuplesAscend → TuplesAreOfRows → (s : Ranked) (rows : List (List Datum))
    → Keeps s rows → CanReadAll s.groups.keys s.groups.columns s.ranking.outputs rows
    → IsStrictlySortedBy tuple_cmp (keys_of s.groups.groups) → IsStrictlySortedBy group_entry_cmp s.entries
    → has_entries s.ranking ≡ true → ((length s.groups.keys ≡ 0) × (length s.groups.groups ≡ 0) → ⊥)
    → filter_map (λ p. seen_at s.ranking.outputs s.groups p.1) s.entries
    ≡ ranked_rows s.groups.keys s.ranking rows
ranked-read ask ascend of_rows s rows k can up entries_up kept bare =
    let r : Ranking = s.ranking in
    let all : List (List Key × List Datum) = shown s.groups.columns r.outputs s.groups.groups in
    let all_up : IsStrictlySortedBy tuple_cmp (keys_of all) =
    subst (IsStrictlySortedBy tuple_cmp) (sym (shown-keys s.groups.columns r.outputs s.groups.groups)) up in
    let es : List (List Key × List Datum) = passing r.having all in
    let at : List Key → Option (List Datum) = shown_at r s.groups in
    let same : (t : List Key) → at t ≡ named tuple_cmp es t =
    λ t. ap (if_passing r.having) (shown-at s.groups.columns r.outputs t s.groups.groups)
    ∙ passing-at r.having t all all_up in
    let rows_are : values_of es ≡ filter (passes r.having) (group_rows s.groups.keys r.outputs rows) =
    passing-rows r.having all
    ∙ ap (filter (passes r.having))
    (all-read s.groups r.outputs rows k.groups_are can ask ascend of_rows s.groups.columns s.groups.groups
    (values_of all) refl refl up (shown-read s.groups.columns r.outputs s.groups.groups) bare) in
    let ranked : List (List Datum) = sorted (row_cmp r.order) (values_of es) in
    let n : ℕ = length s.entries + length ranked in
    let firsts : map (named tuple_cmp es) (map (λ p. p.1) (take n s.entries)) ≡ map Some (take n ranked) =
    first-named tuple_cmp tuple_total tuple_exact r.order s.entries es n (passing-ascends r.having all all_up) entries_up
    (keeps-same tuple_cmp tuple_total tuple_exact r.order s.entries (placed_at r s.groups) (named tuple_cmp es)
    (λ t. ap (λ b. cond b (at t) None) kept ∙ same t) k.ranked)
    (passing-ordered r.having r.order all (shown-ordered s.groups.columns r.outputs r.order s.groups.groups)) in
    made-of r.having (seen_at r.outputs s.groups) s.entries ranked
    (map-same at (named tuple_cmp es) same (map (λ p. p.1) s.entries)
    ∙ ap (λ (l : List GroupEntry). map (named tuple_cmp es) (map (λ p. p.1) l))
    (sym (take_all n s.entries (omega arith)))
    ∙ firsts ∙ ap (map Some) (take_all n ranked (omega arith)))
    ∙ ap (sorted (row_cmp r.order)) rows_are

-- The first of them are the rows that are shown first.
pub first-ranked : TuplesAsk → TuplesAscend → TuplesAreOfRows → (s : Ranked) (g : Grouped) (r : Ranking)
    (entries : List GroupEntry) (outs : List GroupOutput) (made : List (List Datum)) (n : ℕ)
    → record { groups = g; ranking = r; entries = entries } ≡ s → outs ≡ r.outputs
    → made ≡ take n (filter_map (λ p. seen_at outs g p.1) entries)
    → IsStrictlySortedBy tuple_cmp (keys_of g.groups) → IsStrictlySortedBy group_entry_cmp entries
    → has_entries r ≡ true → ((length s.groups.keys ≡ 0) × (length s.groups.groups ≡ 0) → ⊥)
    → (rows : List (List Datum)) → Keeps s rows
    → CanReadAll s.groups.keys s.groups.columns s.ranking.outputs rows
    → made ≡ take n (ranked_rows s.groups.keys s.ranking rows)
first-ranked ask ascend of_rows s g r entries outs made n is outs_are read up entries_up kept bare rows k can =
    read
    ∙ ap (λ os. take n (filter_map (λ p. seen_at os g p.1) entries)) outs_are
    ∙ ap (λ (x : Ranked). take n (filter_map (λ p. seen_at x.ranking.outputs x.groups p.1) x.entries)) is
    ∙ ap (take n)
    (ranked-read ask ascend of_rows s rows k can
    (subst (λ (x : Ranked). IsStrictlySortedBy tuple_cmp (keys_of x.groups.groups)) is up)
    (subst (λ (x : Ranked). IsStrictlySortedBy group_entry_cmp x.entries) is entries_up)
    (subst (λ (x : Ranked). has_entries x.ranking ≡ true) is kept) bare)

-- one row is sorted as it is, if it passes
pub one-sorted : (order : List OrderBy) (having : Option Filter) (by : List ℕ) (outs : List GroupOutput)
    (rows : List (List Datum)) → length by ≡ 0
    → sorted (row_cmp order) (filter (passes having) (group_rows by outs rows))
    ≡ filter (passes having) (group_rows by outs rows)
unfolding sorted group_rows tuples_of
one-sorted order having [] outs rows h = either (passes having (group_row outs [] (rows_with [] [] rows)))
  where
    either : (b : Bool) → sorted (row_cmp order) (cond b (group_row outs [] (rows_with [] [] rows) ∷ []) [])
        ≡ cond b (group_row outs [] (rows_with [] [] rows) ∷ []) []
    either true = refl
    either false = refl
one-sorted order having (k ∷ ks) outs rows h = absurd (omega (arith, h))

pub take-map : {X Y : Type 0} (f : X → Y) (n : ℕ) (xs : List X) → map f (take n xs) ≡ take n (map f xs)
take-map f zero xs = refl
take-map f (suc n) [] = refl
take-map f (suc n) (x ∷ xs) = ap (λ ys. f x ∷ ys) (take-map f n xs)

-- Where there are neither grouping columns nor groups, there is one row, which is shown if it passes.
pub bare-first : (s : Ranked) (g : Grouped) (r : Ranking) (made shown taken : List (List Datum)) (n : ℕ)
    → g ≡ s.groups → r ≡ s.ranking → length g.keys ≡ 0 → taken ≡ take n shown → shown ≡ filter (passes r.having) made
    → ((rows : List (List Datum)) → KeepsGroups g rows → CanReadAll g.keys g.columns r.outputs rows
    → made ≡ group_rows g.keys r.outputs rows)
    → (rows : List (List Datum)) → Keeps s rows
    → CanReadAll s.groups.keys s.groups.columns s.ranking.outputs rows
    → taken ≡ take n (ranked_rows s.groups.keys s.ranking rows)
bare-first s g r made shown taken n a b none cut passed read rows k can =
    let kept : KeepsGroups g rows = subst (λ x. KeepsGroups x rows) (sym a) k.groups_are in
    let able : CanReadAll g.keys g.columns r.outputs rows =
    subst (λ x. CanReadAll g.keys g.columns x.outputs rows) (sym b)
    (subst (λ x. CanReadAll x.keys x.columns s.ranking.outputs rows) (sym a) can) in
    cut ∙ ap (take n) (passed ∙ ap (filter (passes r.having)) (read rows kept able)
    ∙ sym (one-sorted r.order r.having g.keys r.outputs rows none))
    ∙ ap (λ y. take n (ranked_rows y.keys r rows)) a ∙ ap (λ x. take n (ranked_rows s.groups.keys x rows)) b

none-there : {X : Type 0} (f : GroupCounts → X) (columns : List AccumulatedColumn) (o : Option GroupCounts) → KeepsAt columns [] o
    → option_map f o ≡ None
none-there f columns None h = refl
none-there f columns (Some g) h = absurd (omega (arith, h.0, h.1.rows_are))

none-either : {X : Type 0} (b : Bool) {o : Option X} → o ≡ None → cond b o None ≡ None
none-either true h = h
none-either false h = refl

-- No rows have no entries.
pub none-ranked : (s : Ranked) → s.entries ≡ [] → KeepsGroups s.groups [] → Keeps s []
none-ranked s e k = record {
  groups_are = k;
  ranked = record {
    entries_are = λ p.
        ap (λ ps. stands_by tuple_cmp ps p) e
        ∙ ap (has_sort_keys s.ranking.order p.0)
        (sym (none-either (has_entries s.ranking)
        (ap (if_passing s.ranking.having) (none-there (λ c. seen_row s.groups.columns s.ranking.outputs (p.1, c))
        s.groups.columns (lookup (is_at (tuple_cmp p.1)) s.groups.groups) (k.groups_are p.1)))));
  };
}

-- Without an order rows stay in their order, and without a filter all pass.

one-stands : (row : List Datum) (rows : List (List Datum)) → placed (row_cmp []) row rows ≡ row ∷ rows
unfolding row_cmp
one-stands row [] = refl
one-stands row (x ∷ xs) = refl

all-stand : (rows : List (List Datum)) → sorted (row_cmp []) rows ≡ rows
unfolding sorted
all-stand [] = refl
all-stand (row ∷ rows) = ap (placed (row_cmp []) row) (all-stand rows) ∙ one-stands row rows

all-pass : (rows : List (List Datum)) → filter (passes None) rows ≡ rows
unfolding passes
all-pass [] = refl
all-pass (row ∷ rows) = ap (λ l. row ∷ l) (all-pass rows)

unranked : (by : List ℕ) (outs : List GroupOutput) (h : Option Filter) (os : List OrderBy)
    (rows : List (List Datum)) → has_entries (ranking_by outs h os) ≡ false
    → ranked_rows by (ranking_by outs h os) rows ≡ group_rows by outs rows
unranked by outs None [] rows e =
    ap (sorted (row_cmp [])) (all-pass (group_rows by outs rows)) ∙ all-stand (group_rows by outs rows)
unranked by outs None (o ∷ os) rows e = absurd (true≢false (sym (lt-ltb 0 (length (o ∷ os)) (omega arith)) ∙ e))
unranked by outs (Some f) os rows e = absurd (true≢false e)

-- Where no entries are stored, the first rows of the groups are the first that are shown.
pub first-unranked : (s : Ranked) (g : Grouped) (outs : List GroupOutput) (made : List (List Datum)) (n : ℕ)
    → has_entries s.ranking ≡ false → g ≡ s.groups → outs ≡ s.ranking.outputs
    → ((rows : List (List Datum)) → KeepsGroups g rows → CanReadAll g.keys g.columns outs rows
    → made ≡ take n (group_rows g.keys outs rows))
    → (rows : List (List Datum)) → Keeps s rows
    → CanReadAll s.groups.keys s.groups.columns s.ranking.outputs rows
    → made ≡ take n (ranked_rows s.groups.keys s.ranking rows)
first-unranked s g outs made n none a b read rows k can =
    read rows (subst (λ x. KeepsGroups x rows) (sym a) k.groups_are)
    (subst (λ x. CanReadAll g.keys g.columns x rows) (sym b)
    (subst (λ x. CanReadAll x.keys x.columns s.ranking.outputs rows) (sym a) can))
    ∙ ap (λ x. take n (group_rows x.keys outs rows)) a ∙ ap (λ x. take n (group_rows s.groups.keys x rows)) b
    ∙ ap (take n) (sym (unranked s.groups.keys s.ranking.outputs s.ranking.having s.ranking.order rows none))
