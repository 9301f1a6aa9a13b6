-- Entries of rows whose names are of any type: they are stored sorted, and the first of them are those of the first
-- rows of a view.
use Rattle.std.proofs.Common.{◌≡◌, refl, ap, ap₂, sym, ◌∙◌, arith, get_or, length}
use Rattle.std.specs.Prelude.{ℕ, zero, suc, List, [], ◌∷◌, Bool, true, false, Option, None, Some, cond, ◌&&◌, ◌||◌, ◌+◌, ◌<◌, map, take}
use Rattle.std.specs.declared.cmp.Ordering.{Ordering}
use Rattle.std.specs.declared.cmp.Ordering.TheVariants.{Equal, Greater, Less}
use Rattle.std.specs.Ordering.{is_eq, is_gt, ordering_then, match_ordering, then_cmp, on}
use Rattle.std.specs.Cmp.{Equal-is, IsTotalOrder, eq_by_cmp_equiv, tied_itself, tied_then}
use Rattle.std.specs.Cmp.Lexicographic.{slice_cmp}
use Rattle.std.specs.List.{AllByRecursion, list_any}
use Rattle.std.specs.List.Sorted.{IsStrictlySortedBy}
use Rattle.std.specs.Map.{keys_of, values_of}
use Rattle.std.specs.BTreeMap.{is_at}
use Rattle.std.specs.BTreeSet.{insert_key}
use Rattle.std.proofs.lemmas.List.Folds.{list_any_more}
use Rattle.std.proofs.lemmas.Map.{lookup-none}
use Rattle.std.proofs.lemmas.Map.Entries.{none_past_head}
use Rattle.std.proofs.lemmas.Map.Keys.{IsDistinct-from_sorted, sorted_tail}
use Rattle.std.proofs.lemmas.Map.Lookups.{CmpEqualImpliesEq}
use Rattle.values.specs.Datum.{Datum}
use Rattle.view_lang.specs.Sorted.{placed, sorted}
use Rattle.view_lang.specs.RowOrder.{row_cmp}
use Rattle.view_lang.specs.declared.view.OrderBy.{OrderBy}
use Rattle.view_lang.proofs.AscendingKeys.{same-keys}
use Rattle.view_lang.proofs.KeptRows.{sorted_by_place}
use Rattle.view_lang.proofs.OwnEntries.{HasOwn, own-entries}
use Rattle.top_rows.specs.EntryOrder.{sort_key_cmp, tied_cmp, tied_total}
use Rattle.top_rows.specs.SortKeys.{sort_keys_of}
use Rattle.top_rows.specs.ViewOrder.{OrdersKeys}
use Rattle.top_rows.specs.declared.sort_key.SortKey.{SortKey}
use Rattle.top_rows.specs.Ties.{
  has_sort_keys,
  stands_by,
  entry_by,
  is_entry_by,
  KeepsBy,
  named,
  placed_by,
  pick,
  without,
}
use Rattle.top_rows.proofs.SortKeys.{sort-keys-cmp, sort_keys_exact, then-first, then-second}
use Rattle.top_rows.proofs.InsertedKeys.{any-insert_key, sorted-insert_key}

and_true : (a : Bool) → (a && true) ≡ a
and_true true = refl
and_true false = refl

and_false : (a : Bool) → (a && false) ≡ false
and_false true = refl
and_false false = refl

all-placed : {X : Type 0} (c : X → X → Ordering) (P : X → Type 0) (x : X) (xs : List X) → P x → AllByRecursion P xs
    → AllByRecursion P (placed c x xs)
all-placed c P x [] p a = (p, tt)
all-placed c P x (y ∷ ys) p a =
    elim (is_gt (c x y)) as (λ b. AllByRecursion P (cond b (y ∷ placed c x ys) (x ∷ y ∷ ys)))
    [ true ↦ (a.0, all-placed c P x ys p a.1) | false ↦ (p, a) ]

all-sorted : {X : Type 0} (c : X → X → Ordering) (P : X → Type 0) (xs : List X) → AllByRecursion P xs
    → AllByRecursion P (sorted c xs)
unfolding sorted
all-sorted c P [] a = tt
all-sorted c P (x ∷ xs) a = all-placed c P x (sorted c xs) a.0 (all-sorted c P xs a.1)

module _ {N : Type 0} (cmp : N → N → Ordering) (total : IsTotalOrder cmp) (exact : CmpEqualImpliesEq cmp) where
  pub tied_exact : CmpEqualImpliesEq (tied_cmp cmp)
  tied_exact x y h =
      let k = sort_keys_exact x.0 y.0 (then-first (slice_cmp sort_key_cmp x.0 y.0) (cmp x.1 y.1) h) in
      let l = exact x.1 y.1 (then-second (slice_cmp sort_key_cmp x.0 y.0) (cmp x.1 y.1) h) in
      λ i. (k i, l i)

  module _ (order : List OrderBy) (n : N) (p : List SortKey × N) where
    -- at the row's own name the sort keys decide, at others there is nothing
    some-by : (a : Option (List Datum)) (b : Bool) → is_at (cmp n) p.1 ≡ b
        → is_entry_by cmp order n a p ≡ (has_sort_keys order p.0 a && b)
    some-by None b h = refl
    some-by (Some row) b h =
        sym (tied_then (slice_cmp sort_key_cmp (sort_keys_of order row) p.0) (cmp n p.1))
        ∙ ap (λ c. is_at (slice_cmp sort_key_cmp (sort_keys_of order row)) p.0 && c) h

    pub some-here : (a : Option (List Datum)) → is_at (cmp n) p.1 ≡ true
        → is_entry_by cmp order n a p ≡ has_sort_keys order p.0 a
    some-here a h = some-by a true h ∙ and_true (has_sort_keys order p.0 a)

    pub some-there : (a : Option (List Datum)) → is_at (cmp n) p.1 ≡ false → is_entry_by cmp order n a p ≡ false
    some-there a h = some-by a false h ∙ and_false (has_sort_keys order p.0 a)

  module _ (order : List OrderBy) where
    pub sorted-placed : (rows : List (N × List Datum)) → IsStrictlySortedBy (tied_cmp cmp) (placed_by cmp order rows)
    unfolding IsStrictlySortedBy
    sorted-placed [] = tt
    sorted-placed (e ∷ es) =
        sorted-insert_key (tied_total cmp total) (entry_by cmp order e.0 e.1) (placed_by cmp order es) (sorted-placed es)

    abbrev Stands : List (N × List Datum) → List SortKey × N → Type 0
    Stands rows p = stands_by cmp (placed_by cmp order rows) p ≡ has_sort_keys order p.0 (named cmp rows p.1)

    stands-by : (e : N × List Datum) (es : List (N × List Datum)) → IsStrictlySortedBy cmp (keys_of (e ∷ es))
        → (p : List SortKey × N) → Stands es p → (b : Bool) → is_at (cmp p.1) e.0 ≡ b
        → cond (is_entry_by cmp order e.0 (Some e.1) p) true (stands_by cmp (placed_by cmp order es) p)
        ≡ has_sort_keys order p.0 (cond b (Some e.1) (named cmp es p.1))
    stands-by e es s p h true x =
        let y : is_at (cmp e.0) p.1 ≡ true = (eq_by_cmp_equiv total).symm e.0 p.1 ∙ x in
        let distinct = IsDistinct-from_sorted cmp (keys_of (e ∷ es)) s in
        let past = none_past_head (eq_by_cmp_equiv total) p.1 e es distinct x in
        let none = h ∙ ap (has_sort_keys order p.0) (lookup-none (is_at (cmp p.1)) es past) in
        rw (some-here order e.0 p (Some e.1) y, none)
        (elim (has_sort_keys order p.0 (Some e.1)) as (λ b. cond b true false ≡ b) [ true ↦ refl | false ↦ refl ])
    stands-by e es s p h false x =
        let y : is_at (cmp e.0) p.1 ≡ false = (eq_by_cmp_equiv total).symm e.0 p.1 ∙ x in
        rw (some-there order e.0 p (Some e.1) y) h

    stands-sorted : (rows : List (N × List Datum)) → IsStrictlySortedBy cmp (keys_of rows)
        → (p : List SortKey × N) → Stands rows p
    stands-sorted [] s p = refl
    stands-sorted (e ∷ es) s p =
        let rest = stands-sorted es (sorted_tail cmp e.0 (keys_of es) s) p in
        any-insert_key (tied_total cmp total) (entry_by cmp order e.0 e.1) p (placed_by cmp order es)
        ∙ stands-by e es s p rest (is_at (cmp p.1) e.0) refl

    -- The entries of rows are stored sorted.
    pub order_entries-are : (order_entries : List (List SortKey × N)) (rows : List (N × List Datum))
        → IsStrictlySortedBy cmp (keys_of rows) → IsStrictlySortedBy (tied_cmp cmp) order_entries
        → KeepsBy cmp order order_entries (named cmp rows) → order_entries ≡ placed_by cmp order rows
    order_entries-are order_entries rows up s k =
        same-keys (tied_total cmp total) tied_exact order_entries (placed_by cmp order rows) s (sorted-placed rows)
        (λ p. k.entries_are p ∙ sym (stands-sorted rows up p))

    abbrev Fine : N × List Datum → Type 0
    Fine e = OrdersKeys order e.1

    abbrev placing : N × List Datum → List SortKey × N
    placing e = entry_by cmp order e.0 e.1

    abbrev by : N × List Datum → N × List Datum → Ordering
    by = then_cmp (on (λ e. e.1) (row_cmp order)) (λ a b. cmp a.0 b.0)

    entry-cmp : (a b : N × List Datum) → Fine a → Fine b → cmp a.0 b.0 ≡ Less
        → tied_cmp cmp (placing a) (placing b) ≡ ordering_then (row_cmp order a.1 b.1) Less
    entry-cmp a b x y l = ap₂ ordering_then (sort-keys-cmp order a.1 b.1 x y) l

    abbrev IsPlaced : N × List Datum → List (N × List Datum) → Type 0
    IsPlaced e ys = insert_key (tied_cmp cmp) (map placing ys) (placing e) ≡ map placing (placed by e ys)

    entry-step : (e y : N × List Datum) (ys : List (N × List Datum)) → IsPlaced e ys → (r : Ordering)
        → match_ordering (ordering_then r Less) (placing e ∷ placing y ∷ map placing ys) (placing y ∷ map placing ys)
        (placing y ∷ insert_key (tied_cmp cmp) (map placing ys) (placing e))
        ≡ map placing (cond (is_gt (ordering_then r Less)) (y ∷ placed by e ys) (e ∷ y ∷ ys))
    entry-step e y ys h Less = refl
    entry-step e y ys h Equal = refl
    entry-step e y ys h Greater = ap (λ l. placing y ∷ l) h

    abbrev IsAbove : N → N × List Datum → Type 0
    IsAbove n y = Fine y × (cmp n y.0 ≡ Less)

    insert-placed : (e : N × List Datum) → Fine e → (ys : List (N × List Datum)) → AllByRecursion (IsAbove e.0) ys
        → IsPlaced e ys
    insert-placed e x [] a = refl
    insert-placed e x (y ∷ ys) a =
        rw (entry-cmp e y x a.0.0 a.0.1, a.0.1) (entry-step e y ys (insert-placed e x ys a.1) (row_cmp order e.1 y.1))

    above : (n : N) (es : List (N × List Datum)) → AllByRecursion (λ m. cmp n m ≡ Less) (keys_of es)
        → AllByRecursion Fine es → AllByRecursion (IsAbove n) es
    above n [] a f = tt
    above n (e ∷ es) a f = ((f.0, a.0), above n es a.1 f.1)

    pub placed-sorted : (rows : List (N × List Datum)) → IsStrictlySortedBy cmp (keys_of rows)
        → AllByRecursion Fine rows → placed_by cmp order rows ≡ map placing (sorted by rows)
    unfolding sorted IsStrictlySortedBy
    placed-sorted [] s f = refl
    placed-sorted (e ∷ es) s f =
        ap (λ l. insert_key (tied_cmp cmp) l (placing e)) (placed-sorted es s.1 f.1)
        ∙ insert-placed e f.0 (sorted by es) (all-sorted by (IsAbove e.0) es (above e.0 es s.0 f.1))

    read-back : (rows es : List (N × List Datum)) → AllByRecursion (HasOwn cmp total rows) es → (n : ℕ)
        → map (named cmp rows) (map (λ p. p.1) (take n (map placing es))) ≡ map Some (take n (map (λ e. e.1) es))
    read-back rows es a zero = refl
    read-back rows [] a (suc n) = refl
    read-back rows (e ∷ es) a (suc n) = ap₂ (λ x xs. x ∷ xs) a.0 (read-back rows es a.1 n)

    by-names : (rows : List (N × List Datum)) → IsStrictlySortedBy cmp (keys_of rows)
        → IsStrictlySortedBy (λ a b. cmp a.0 b.0) rows
    unfolding IsStrictlySortedBy
    by-names [] s = tt
    by-names (e ∷ es) s = (below es s.0, by-names es s.1)
      where
        below : (es : List (N × List Datum)) → AllByRecursion (λ m. cmp e.0 m ≡ Less) (keys_of es)
            → AllByRecursion (λ b. cmp e.0 b.0 ≡ Less) es
        below [] a = tt
        below (x ∷ xs) a = (a.0, below xs a.1)

    -- The rows of the names in the first entries are the first of the sorted rows.
    pub first-named : (order_entries : List (List SortKey × N)) (rows : List (N × List Datum)) (n : ℕ)
        → IsStrictlySortedBy cmp (keys_of rows) → IsStrictlySortedBy (tied_cmp cmp) order_entries
        → KeepsBy cmp order order_entries (named cmp rows) → AllByRecursion Fine rows
        → map (named cmp rows) (map (λ p. p.1) (take n order_entries))
        ≡ map Some (take n (sorted (row_cmp order) (values_of rows)))
    first-named order_entries rows n up s k f =
        ap (λ l. map (named cmp rows) (map (λ p. p.1) (take n l)))
        (order_entries-are order_entries rows up s k ∙ placed-sorted rows up f)
        ∙ read-back rows (sorted by rows) (all-sorted by (HasOwn cmp total rows) rows (own-entries cmp total rows up)) n
        ∙ ap (λ l. map Some (take n l)) (sorted_by_place (λ e. e.1) (row_cmp order) (λ a b. cmp a.0 b.0) rows
        (by-names rows up))

  -- The delta law: entries follow the rows of some names.

  abbrev pub set_at : N → Option (List Datum) → (N → Option (List Datum)) → N → Option (List Datum)
  set_at n a at m = cond (is_at (cmp n) m) a (at m)

  gone : (t x : Bool) → cond x false (cond t false x) ≡ false
  gone true true = refl
  gone true false = refl
  gone false true = refl
  gone false false = refl

  come : (t x : Bool) → cond x true (cond t x false) ≡ x
  come true true = refl
  come true false = refl
  come false true = refl
  come false false = refl

  module _ (order : List OrderBy) (order_entries next : List (List SortKey × N)) (at : N → Option (List Datum)) (n : N)
      (a : Option (List Datum)) (k : KeepsBy cmp order order_entries at) where
    own : (p : List SortKey × N) → is_at (cmp n) p.1 ≡ true → stands_by cmp order_entries p
        ≡ has_sort_keys order p.0 (at n)
    own p h =
        k.entries_are p
        ∙ ap (λ m. has_sort_keys order p.0 (at m)) (sym (exact n p.1 ((Equal-is (cmp n p.1)).0 h)))

    has-cond : (p : List SortKey) (t : Bool) (x y : Option (List Datum))
        → has_sort_keys order p (cond t x y) ≡ cond t (has_sort_keys order p x) (has_sort_keys order p y)
    has-cond p true x y = refl
    has-cond p false x y = refl

    -- The row of a name is removed, if it has one, or it was before.
    pub keeps-without : (t : Bool) → at n ≡ cond t None a
        → ((p : List SortKey × N) → stands_by cmp next p
        ≡ cond (is_entry_by cmp order n a p) false (stands_by cmp order_entries p))
        → KeepsBy cmp order next (set_at n None at)
    keeps-without t is f = record { entries_are = λ p. f p ∙ go p (is_at (cmp n) p.1) refl }
      where
        go : (p : List SortKey × N) (b : Bool) → is_at (cmp n) p.1 ≡ b
            → cond (is_entry_by cmp order n a p) false (stands_by cmp order_entries p)
            ≡ has_sort_keys order p.0 (cond b None (at p.1))
        go p true h =
            rw (some-here order n p a h, own p h, is, has-cond p.0 t None a) (gone t (has_sort_keys order p.0 a))
        go p false h = rw (some-there order n p a h) (k.entries_are p)

    -- The row of a name is inserted, if it has one, unless it was before.
    pub keeps-with : (t : Bool) → at n ≡ cond t a None
        → ((p : List SortKey × N) → stands_by cmp next p
        ≡ cond (is_entry_by cmp order n a p) true (stands_by cmp order_entries p))
        → KeepsBy cmp order next (set_at n a at)
    keeps-with t is f = record { entries_are = λ p. f p ∙ go p (is_at (cmp n) p.1) refl }
      where
        go : (p : List SortKey × N) (b : Bool) → is_at (cmp n) p.1 ≡ b
            → cond (is_entry_by cmp order n a p) true (stands_by cmp order_entries p)
            ≡ has_sort_keys order p.0 (cond b a (at p.1))
        go p true h =
            rw (some-here order n p a h, own p h, is, has-cond p.0 t a None) (come t (has_sort_keys order p.0 a))
        go p false h = rw (some-there order n p a h) (k.entries_are p)

  -- Where two functions give the same for each name, what is stored for one is stored for the other.
  pub keeps-same : (order : List OrderBy) (order_entries : List (List SortKey × N)) (at others : N → Option (List Datum))
      → ((n : N) → at n ≡ others n) → KeepsBy cmp order order_entries at → KeepsBy cmp order order_entries others
  keeps-same order order_entries at others e k = record {
    entries_are = λ p. k.entries_are p ∙ ap (has_sort_keys order p.0) (e p.1);
  }

  -- Names one after another

  or-true : (x : Bool) → (x || true) ≡ true
  or-true true = refl
  or-true false = refl

  or-false : (x : Bool) → (x || false) ≡ x
  or-false true = refl
  or-false false = refl

  pub pick-more : (ns next : List N) (n : N) (at others : N → Option (List Datum))
      → ((m : N) → list_any (is_at (cmp m)) next ≡ (list_any (is_at (cmp m)) ns || is_at (cmp m) n))
      → (m : N) → set_at n (at n) (pick cmp ns at others) m ≡ pick cmp next at others m
  pick-more ns next n at others more m =
      ap (λ b. cond b (at n) (pick cmp ns at others m)) ((eq_by_cmp_equiv total).symm n m)
      ∙ go (is_at (cmp m) n) refl
      ∙ ap (λ b. cond b (at m) (others m)) (sym (more m))
    where
      go : (b : Bool) → is_at (cmp m) n ≡ b
          → cond b (at n) (pick cmp ns at others m)
          ≡ cond (list_any (is_at (cmp m)) ns || b) (at m) (others m)
      go true h =
          rw (or-true (list_any (is_at (cmp m)) ns)) (ap at (sym (exact m n ((Equal-is (cmp m n)).0 h))))
      go false h = rw (or-false (list_any (is_at (cmp m)) ns)) refl

  module _ (order : List OrderBy) (ns : List N) (i : ℕ) (d : N) (below : i < length ns) where
    next : (m : N) → list_any (is_at (cmp m)) (take (i + 1) ns)
        ≡ (list_any (is_at (cmp m)) (take i ns) || is_at (cmp m) (get_or ns i d))
    next m = list_any_more (is_at (cmp m)) ns i d below

    -- one more name whose row is removed
    pub without-more : (order_entries after : List (List SortKey × N)) (at : N → Option (List Datum))
        → ((p : List SortKey × N) → stands_by cmp after p
        ≡ cond (is_entry_by cmp order (get_or ns i d) (at (get_or ns i d)) p) false (stands_by cmp order_entries p))
        → KeepsBy cmp order order_entries (without cmp (take i ns) at)
        → KeepsBy cmp order after (without cmp (take (i + 1) ns) at)
    without-more order_entries after at f k =
        keeps-same order after (set_at (get_or ns i d) None (without cmp (take i ns) at))
        (without cmp (take (i + 1) ns) at)
        (pick-more (take i ns) (take (i + 1) ns) (get_or ns i d) (λ n. None) at next)
        (keeps-without order order_entries after (without cmp (take i ns) at) (get_or ns i d) (at (get_or ns i d)) k
        (list_any (is_at (cmp (get_or ns i d))) (take i ns)) refl f)

    -- one more name whose row is inserted
    pub with-more : (order_entries after : List (List SortKey × N)) (at others : N → Option (List Datum))
        → others (get_or ns i d) ≡ None
        → ((p : List SortKey × N) → stands_by cmp after p
        ≡ cond (is_entry_by cmp order (get_or ns i d) (at (get_or ns i d)) p) true (stands_by cmp order_entries p))
        → KeepsBy cmp order order_entries (pick cmp (take i ns) at others)
        → KeepsBy cmp order after (pick cmp (take (i + 1) ns) at others)
    with-more order_entries after at others none f k =
        keeps-same order after (set_at (get_or ns i d) (at (get_or ns i d)) (pick cmp (take i ns) at others))
        (pick cmp (take (i + 1) ns) at others)
        (pick-more (take i ns) (take (i + 1) ns) (get_or ns i d) at others next)
        (keeps-with order order_entries after (pick cmp (take i ns) at others) (get_or ns i d) (at (get_or ns i d)) k
        (list_any (is_at (cmp (get_or ns i d))) (take i ns))
        (ap (λ o. cond (list_any (is_at (cmp (get_or ns i d))) (take i ns)) (at (get_or ns i d)) o) none) f)

    -- a name among them has no row once those of all are removed
    pub none-there : (at : N → Option (List Datum)) → without cmp ns at (get_or ns i d) ≡ None
    none-there at = ap (λ b. cond b None (at (get_or ns i d))) (among ns i below)
      where
        among : (xs : List N) (j : ℕ) → j < length xs → list_any (is_at (cmp (get_or xs j d))) xs ≡ true
        among [] j h = absurd (omega (arith, h))
        among (x ∷ xs) zero h = ap (λ r. is_eq r || list_any (is_at (cmp x)) xs) (tied_itself total x)
        among (x ∷ xs) (suc j) h =
            ap (λ b. is_at (cmp (get_or xs j d)) x || b) (among xs j (omega (arith, h)))
            ∙ or-true (is_at (cmp (get_or xs j d)) x)

  -- Where only rows of these names changed, the entries of all rows are stored in the end.
  pub all-picked : (order : List OrderBy) (ns : List N) (order_entries : List (List SortKey × N))
      (at before : N → Option (List Datum))
      → ((n : N) → list_any (is_at (cmp n)) ns ≡ false → at n ≡ before n)
      → KeepsBy cmp order order_entries (pick cmp ns at (without cmp ns before)) → KeepsBy cmp order order_entries at
  all-picked order ns order_entries at before same k =
      keeps-same order order_entries (pick cmp ns at (without cmp ns before)) at
      (λ n. go n (list_any (is_at (cmp n)) ns) refl) k
    where
      go : (n : N) (b : Bool) → list_any (is_at (cmp n)) ns ≡ b → cond b (at n) (cond b None (before n)) ≡ at n
      go n true h = refl
      go n false h = sym (same n h)
