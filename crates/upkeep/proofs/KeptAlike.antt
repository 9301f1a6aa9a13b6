-- Rows for which the same is stored: they have the same sort keys, or the same cells in all that groups read.
use Rattle.std.proofs.Common.{◌≡◌, ℕ, ◌<◌, ◌&&◌, ◌||◌, Bool, true, false, cond, All, List, [], ◌∷◌, Option, None, Some, ap, ap₂, arith, length, not, refl, subst, sym, true≢false, ◌∙◌}
use Rattle.std.specs.Prelude.{slice_index_or}
use Rattle.std.specs.BTreeMap.{insert_entry, is_at}
use Rattle.std.specs.Cmp.{nat_cmp_total}
use Rattle.std.specs.Cmp.Lexicographic.{slice_cmp}
use Rattle.std.specs.List.{list_any}
use Rattle.std.specs.Map.{keys_of, lookup, values_of}
use Rattle.std.specs.Ordering.{is_eq, match_ordering, nat_cmp}
use Rattle.std.specs.declared.cmp.Ordering.{Ordering}
use Rattle.std.specs.declared.cmp.Ordering.TheVariants as ordering
use Rattle.std.proofs.lemmas.List.Elements.{All-cons, All-head, All-nil, All-tail}
use Rattle.std.proofs.lemmas.Map.{lookup-none}
use Rattle.std.proofs.lemmas.Map.Entries.{none_below_head}
use Rattle.std.proofs.lemmas.Map.Keys.{sorted_tail}
use Rattle.std.proofs.lemmas.Option.{none-some}
use Rattle.values.specs.Datum.{Datum}
use Rattle.values.specs.declared.key.Key.{Key}
use Rattle.view_lang.specs.Cells.{cell_at}
use Rattle.view_lang.specs.Counted.{lookup-with_at}
use Rattle.view_lang.specs.Filter.{Filter}
use Rattle.view_lang.specs.Outputs.{GroupOutput, Output, Outputs, columns, groups}
use Rattle.view_lang.specs.Config.{View}
use Rattle.view_lang.specs.Shifts.{Fits, NumberedRows, row_at, shift, with_at}
use Rattle.view_lang.specs.Views.{shown_row}
use Rattle.view_lang.specs.declared.view.OrderBy.{OrderBy}
use Rattle.group_order.specs.Ranked.{Keeps as KeepsRanked, Ranked}
use Rattle.group_state.specs.Cells.{KeepsCells}
use Rattle.group_state.specs.GroupCounts.{GroupCounts}
use Rattle.group_state.specs.Groups.{KeepsAt}
use Rattle.group_state.specs.Keys.{key_in, tuple_cmp}
use Rattle.group_state.specs.Rows.{cells}
use Rattle.group_state.specs.Tuples.{has_tuple, members, tuple_of}
use Rattle.group_state.specs.declared.accumulated_columns.AccumulatedColumn.{AccumulatedColumn}
use Rattle.top_rows.specs.Keeping.{Keeps as KeepsOrder}
use Rattle.top_rows.specs.OrderedEntries.{OrderedEntries}
use Rattle.top_rows.specs.EntryOrder.{sort_key_cmp}
use Rattle.top_rows.specs.SortKeys.{sort_key_of, sort_keys_of}
use Rattle.top_rows.specs.Ties.{has_sort_keys}
use Rattle.top_rows.specs.declared.sort_key.SortKey.{SortKey}
use Rattle.upkeep.specs.AlikeRows.{are_materialized_alike_by, are_reprojected_alike, are_same, differ_in}
use Rattle.upkeep.specs.ViewStates.{IsMaterialized, IsMaterializedBy, ShowsEach, projected_by}
use Rattle.upkeep.specs.declared.view_state.Materialized.{Materialized}
use Rattle.upkeep.specs.declared.view_state.Materialized.TheVariants as kept
use Rattle.upkeep.proofs.Mixtures.{Each, each_length}
use Rattle.upkeep.proofs.Remade.{AreUp, same_number, set_same}
use Rattle.upkeep.proofs.SameCells.{known_same}

-- What a row is ordered by

same_keys : (order : List OrderBy) (a b : List Datum) → All (λ o. cell_at a o.column ≡ cell_at b o.column) order
    → sort_keys_of order a ≡ sort_keys_of order b
same_keys [] a b same = refl
same_keys (o ∷ os) a b same =
    ap₂ (λ k ks. k ∷ ks)
    (ap (sort_key_of o.direction) (All-head (λ (x : OrderBy). cell_at a x.column ≡ cell_at b x.column) o os same))
    (same_keys os a b (All-tail (λ (x : OrderBy). cell_at a x.column ≡ cell_at b x.column) o os same))

pub order_alike : (o : OrderedEntries) (n : ℕ) (a b : List Datum) (rows : NumberedRows) → AreUp rows
    → row_at n rows ≡ Some a → sort_keys_of o.order a ≡ sort_keys_of o.order b → KeepsOrder o rows
    → KeepsOrder o (with_at n (Some b) rows)
order_alike o n a b rows up here same keeps = record {
  entries_are = λ p. keeps.entries_are p ∙ by p.0 p.1 (is_at (nat_cmp n) p.1) refl
      ∙ ap (has_sort_keys o.order p.0) (sym (lookup-with_at n p.1 (Some b) rows up));
}
  where
    by : (ks : List SortKey) (m : ℕ) (t : Bool) → is_at (nat_cmp n) m ≡ t
        → has_sort_keys o.order ks (row_at m rows)
        ≡ has_sort_keys o.order ks (cond t (Some b) (row_at m rows))
    by ks m true is =
        ap (has_sort_keys o.order ks) (ap (λ k. row_at k rows) (sym (same_number n m is)) ∙ here)
        ∙ ap (λ k. is_at (slice_cmp sort_key_cmp k) ks) same
    by ks m false is = refl

-- Groups of rows, one of which is replaced by another

module _ (R : List Datum → List Datum → Type 0) (itself : (r : List Datum) → R r r) where
  each_itself : (rows : List (List Datum)) → Each R rows rows
  each_itself [] = tt
  each_itself (r ∷ rs) = (itself r, each_itself rs)

  module _ (n : ℕ) (a b : List Datum) (alike : R a b) where
    replaced_by : (e : ℕ × List Datum) (es : NumberedRows) → AreUp (e ∷ es)
        → (row_at n es ≡ Some a → Each R (values_of es) (values_of (insert_entry nat_cmp es n b)))
        → (r : Ordering) → nat_cmp n e.0 ≡ r → cond (is_eq r) (Some e.1) (row_at n es) ≡ Some a
        → Each R (values_of (e ∷ es))
        (values_of (match_ordering r ((n, b) ∷ e ∷ es) ((e.0, b) ∷ es) (e ∷ insert_entry nat_cmp es n b)))
    replaced_by e es up rest ordering.Less is here =
        absurd (none-some a (sym (none_below e es up is) ∙ here))
      where
        none_below : (e : ℕ × List Datum) (es : NumberedRows) → AreUp (e ∷ es) → nat_cmp n e.0 ≡ ordering.Less
            → row_at n es ≡ None
        none_below e es up is =
            sym (ap (λ r. cond (is_eq r) (Some e.1) (row_at n es)) is)
            ∙ lookup-none (is_at (nat_cmp n)) (e ∷ es) (none_below_head nat_cmp_total n e es up is)
    replaced_by e es up rest ordering.Equal is here =
        (subst (λ (x : List Datum). R x b) (some_is a e.1 (sym here)) alike, each_itself (values_of es))
      where
        some_is : (x y : List Datum) → Some x ≡ Some y → x ≡ y
        some_is x y h = cc
    replaced_by e es up rest ordering.Greater is here = (itself e.1, rest here)

    replaced : (rows : NumberedRows) → AreUp rows → row_at n rows ≡ Some a
        → Each R (values_of rows) (values_of (insert_entry nat_cmp rows n b))
    replaced [] up here = absurd (none-some a here)
    replaced (e ∷ es) up here =
        replaced_by e es up (replaced es (sorted_tail nat_cmp e.0 (keys_of es) up)) (nat_cmp n e.0) refl here

-- Two rows have the same tuple, and the same cells in the accumulated columns.
pub record AreGroupedAlike (by : List ℕ) (kept : List AccumulatedColumn) (a b : List Datum) : Type 0 where
  pub tuple : tuple_of by a ≡ tuple_of by b
  pub cells_are : All (λ c. cell_at a c.column ≡ cell_at b c.column) kept

itself_alike : (by : List ℕ) (kept : List AccumulatedColumn) (r : List Datum) → AreGroupedAlike by kept r r
itself_alike by kept r = record { tuple = refl; cells_are = λ k d below. refl }

module _ (by : List ℕ) (kept : List AccumulatedColumn) where
  members_alike : (t : List Key) (xs ys : List (List Datum)) → Each (AreGroupedAlike by kept) xs ys
      → Each (AreGroupedAlike by kept) (members by t xs) (members by t ys)
  members_alike t [] [] each = tt
  members_alike t [] (y ∷ ys) each = absurd each
  members_alike t (x ∷ xs) [] each = absurd each
  members_alike t (x ∷ xs) (y ∷ ys) each =
      subst (λ (b : Bool). Each (AreGroupedAlike by kept) (members by t (x ∷ xs))
      (cond b (y ∷ members by t ys) (members by t ys)))
      (ap (is_at (tuple_cmp t)) each.0.tuple)
      (both (has_tuple by t x) (members_alike t xs ys each.1))
    where
      both : (b : Bool) → Each (AreGroupedAlike by kept) (members by t xs) (members by t ys)
          → Each (AreGroupedAlike by kept) (cond b (x ∷ members by t xs) (members by t xs))
          (cond b (y ∷ members by t ys) (members by t ys))
      both true rest = (each.0, rest)
      both false rest = rest

  column_alike : (k : ℕ) (xs ys : List (List Datum)) → Each (λ a b. cell_at a k ≡ cell_at b k) xs ys
      → cells k xs ≡ cells k ys
  column_alike k [] [] each = refl
  column_alike k [] (y ∷ ys) each = absurd each
  column_alike k (x ∷ xs) [] each = absurd each
  column_alike k (x ∷ xs) (y ∷ ys) each = ap₂ (λ c cs. c ∷ cs) each.0 (column_alike k xs ys each.1)

  each_cell : (i : ℕ) (c : AccumulatedColumn) → i < length kept → (xs ys : List (List Datum))
      → Each (AreGroupedAlike by kept) xs ys
      → Each (λ a b. cell_at a (slice_index_or kept i c).column ≡ cell_at b (slice_index_or kept i c).column) xs ys
  each_cell i c below [] [] each = tt
  each_cell i c below [] (y ∷ ys) each = absurd each
  each_cell i c below (x ∷ xs) [] each = absurd each
  each_cell i c below (x ∷ xs) (y ∷ ys) each =
      (each.0.cells_are i c below, each_cell i c below xs ys each.1)

  kept_at : (xs ys : List (List Datum)) → Each (AreGroupedAlike by kept) xs ys → (o : Option GroupCounts)
      → KeepsAt kept xs o → KeepsAt kept ys o
  kept_at [] [] each None keeps = refl
  kept_at [] (y ∷ ys) each None keeps = absurd each
  kept_at (x ∷ xs) ys each None keeps = absurd (omega (arith, ap length keeps))
  kept_at xs ys each (Some g) keeps = (
    keeps.0,
    record {
      rows_are = keeps.1.rows_are ∙ sym (each_length (AreGroupedAlike by kept) xs ys each);
      tallies_are = record {
        count = keeps.1.tallies_are.count;
        each = λ i c d below.
            subst (KeepsCells (slice_index_or kept i c).form (slice_index_or g.tallies i d))
            (column_alike (slice_index_or kept i c).column xs ys (each_cell i c below xs ys each))
            (keeps.1.tallies_are.each i c d below);
      };
    },
  )

pub groups_alike : (g : Ranked) (n : ℕ) (a b : List Datum) (rows : NumberedRows) → AreUp rows
    → row_at n rows ≡ Some a → AreGroupedAlike g.groups.keys g.groups.columns a b
    → KeepsRanked g (values_of rows) → KeepsRanked g (values_of (with_at n (Some b) rows))
groups_alike g n a b rows up here alike keeps =
    let by : List ℕ = g.groups.keys in
    let columns : List AccumulatedColumn = g.groups.columns in
    let each = replaced (AreGroupedAlike by columns) (itself_alike by columns) n a b alike rows up here in
    record {
      groups_are = record {
        groups_are = λ t.
            kept_at by columns (members by t (values_of rows)) (members by t (values_of (with_at n (Some b) rows)))
            (members_alike by columns t (values_of rows) (values_of (with_at n (Some b) rows)) each)
            (lookup (is_at (tuple_cmp t)) g.groups.groups) (keeps.groups_are.groups_are t);
      };
      ranked = keeps.ranked;
    }

same_tuple : (by : List ℕ) (a b : List Datum) → All (λ k. cell_at a k ≡ cell_at b k) by
    → tuple_of by a ≡ tuple_of by b
same_tuple [] a b same = refl
same_tuple (k ∷ ks) a b same =
    ap₂ (λ x xs. x ∷ xs) (ap key_in (All-head (λ j. cell_at a j ≡ cell_at b j) k ks same))
    (same_tuple ks a b (All-tail (λ j. cell_at a j ≡ cell_at b j) k ks same))

-- What is stored for a view

order_kept :
    (Shows : Type 0) (outs : List Output) (order : List OrderBy) (o : OrderedEntries) (n : ℕ) (a b : List Datum)
    (rows : NumberedRows)
    → All (λ by. cell_at (shown_row outs a) by.column ≡ cell_at (shown_row outs b) by.column) order → AreUp rows
    → row_at n rows ≡ Some (shown_row outs a) → IsMaterializedBy Shows (kept.Order o) (columns outs) order rows
    → IsMaterializedBy Shows (kept.Order o) (columns outs) order (with_at n (Some (shown_row outs b)) rows)
order_kept Shows outs order o n a b rows same up here keeps =
    let keys : sort_keys_of o.order (shown_row outs a) ≡ sort_keys_of o.order (shown_row outs b) =
    subst (λ (x : List OrderBy). sort_keys_of x (shown_row outs a) ≡ sort_keys_of x (shown_row outs b)) (sym keeps.0)
    (same_keys order (shown_row outs a) (shown_row outs b) same) in
    (keeps.0, order_alike o n (shown_row outs a) (shown_row outs b) rows up here keys keeps.1)

groups_kept :
    (Shows : Type 0) (by : List ℕ) (outputs : List GroupOutput) (having : Option Filter) (order : List OrderBy)
    (g : Ranked) (n : ℕ) (a b : List Datum) (rows : NumberedRows) → All (λ j. cell_at a j ≡ cell_at b j) by
    → All (λ c. cell_at a c.column ≡ cell_at b c.column) g.groups.columns → AreUp rows → row_at n rows ≡ Some a
    → IsMaterializedBy Shows (kept.Groups g) (groups by outputs having) order rows
    → IsMaterializedBy Shows (kept.Groups g) (groups by outputs having) order (with_at n (Some b) rows)
groups_kept Shows by outputs having order g n a b rows same cells_same up here keeps =
    let alike : AreGroupedAlike g.groups.keys g.groups.columns a b = record {
      tuple = subst (λ (x : List ℕ). tuple_of x a ≡ tuple_of x b) (sym keeps.0) (same_tuple by a b same);
      cells_are = cells_same;
    } in
    (keeps.0, keeps.1, keeps.2, groups_alike g n a b rows up here alike keeps.3)

all_same : {X : Type 0} (p q : X → Datum) (xs : List X) → list_any (λ x. not (are_same (p x) (q x))) xs ≡ false
    → All (λ x. p x ≡ q x) xs
all_same p q [] none = All-nil (λ x. p x ≡ q x)
all_same p q (x ∷ xs) none =
    let both = neither (not (are_same (p x) (q x))) (list_any (λ y. not (are_same (p y) (q y))) xs) none in
    All-cons (λ y. p y ≡ q y) x xs (known_same (p x) (q x) (not_false (are_same (p x) (q x)) both.0))
    (all_same p q xs both.1)
  where
    neither : (a b : Bool) → (a || b) ≡ false → (a ≡ false) × (b ≡ false)
    neither true b h = absurd (true≢false h)
    neither false b h = (refl, h)

    not_false : (b : Bool) → not b ≡ false → b ≡ true
    not_false true h = refl
    not_false false h = absurd (true≢false h)

not_true : (b : Bool) → not b ≡ true → b ≡ false
not_true true h = absurd (true≢false (sym h))
not_true false h = refl

both_not : (a b : Bool) → (not a && not b) ≡ true → (a ≡ false) × (b ≡ false)
both_not true b h = absurd (true≢false (sym h))
both_not false true h = absurd (true≢false (sym h))
both_not false false h = (refl, refl)

alike_by : (Shows : Type 0) (os : Outputs) (order : List OrderBy) (k : Materialized) (n : ℕ) (a b : List Datum)
    (rows : NumberedRows) → are_materialized_alike_by os order k a b ≡ true → AreUp rows → row_at n rows ≡ projected_by os (Some a)
    → IsMaterializedBy Shows k os order rows → IsMaterializedBy Shows k os order (with_at n (projected_by os (Some b)) rows)
alike_by Shows (columns outs) order kept.Live n a b rows alike up here keeps = absurd (true≢false (sym alike))
alike_by Shows (columns outs) order (kept.Order o) n a b rows alike up here keeps =
    let none = not_true
    (list_any (λ (x : OrderBy). differ_in (shown_row outs a) (shown_row outs b) x.column) order) alike in
    order_kept Shows outs order o n a b rows
    (all_same (λ (x : OrderBy). cell_at (shown_row outs a) x.column)
    (λ (x : OrderBy). cell_at (shown_row outs b) x.column) order none) up here keeps
alike_by Shows (columns outs) order (kept.Groups g) n a b rows alike up here keeps = absurd (true≢false (sym alike))
alike_by Shows (groups by outputs having) order kept.Live n a b rows alike up here keeps =
    absurd (true≢false (sym alike))
alike_by Shows (groups by outputs having) order (kept.Order o) n a b rows alike up here keeps =
    absurd (true≢false (sym alike))
alike_by Shows (groups by outputs having) order (kept.Groups g) n a b rows alike up here keeps =
    let none = both_not (list_any (differ_in a b) by)
    (list_any (λ (c : AccumulatedColumn). differ_in a b c.column) g.groups.columns) alike in
    groups_kept Shows by outputs having order g n a b rows
    (all_same (λ k. cell_at a k) (λ k. cell_at b k) by none.0)
    (all_same (λ (c : AccumulatedColumn). cell_at a c.column) (λ (c : AccumulatedColumn). cell_at b c.column) g.groups.columns
    none.1) up here keeps

-- Where the same is stored for the old projected row of a row and for the new one, what is stored stays as it is.
pub alike_kept : (v : View) (k : Materialized) (n : ℕ) (x y : Option (List Datum)) (rows : NumberedRows)
    → are_reprojected_alike v k x y ≡ true → Fits rows (shift n (projected_by v.outputs x) (projected_by v.outputs y) ∷ [])
    → IsMaterialized v k rows → IsMaterialized v k (with_at n (projected_by v.outputs y) rows)
alike_kept v k n None None rows alike fits keeps =
    subst (IsMaterialized v k) (sym (set_same n (projected_by v.outputs None) rows fits.ascending fits.in_turn.0)) keeps
alike_kept v k n None (Some b) rows alike fits keeps = absurd (true≢false (sym alike))
alike_kept v k n (Some a) None rows alike fits keeps = absurd (true≢false (sym alike))
alike_kept v k n (Some a) (Some b) rows alike fits keeps =
    alike_by (ShowsEach v) v.outputs v.order k n a b rows alike fits.ascending fits.in_turn.0 keeps
