-- A key inserted among ascending keys, or removed: they ascend as before, and it is one of them, or no longer.
use Rattle.std.proofs.Common.{◌≡◌, refl, ap, sym, ◌∙◌}
use Rattle.std.specs.Prelude.{List, [], ◌∷◌, Bool, true, false, cond, ◌||◌}
use Rattle.std.specs.declared.cmp.Ordering.{Ordering}
use Rattle.std.specs.declared.cmp.Ordering.TheVariants.{Equal, Greater, Less}
use Rattle.std.specs.Ordering.{is_eq, match_ordering, ordering_reverse}
use Rattle.std.specs.Cmp.{IsTotalOrder, eq_by_cmp_equiv}
use Rattle.std.specs.List.{AllByRecursion, list_any}
use Rattle.std.specs.List.Sorted.{IsStrictlySortedBy}
use Rattle.std.specs.BTreeMap.{is_at}
use Rattle.std.specs.BTreeSet.{insert_key}
use Rattle.std.specs.Set.{remove_key}
use Rattle.view_lang.specs.SortedEntries.{all_below}

module _ {K : Type 0} {R : K → K → Ordering} (o : IsTotalOrder R) where
  module _ (k : K) where
    abbrev placed_by : Ordering → K → List K → List K
    placed_by r x xs = match_ordering r (k ∷ x ∷ xs) (x ∷ xs) (x ∷ insert_key R xs k)

    all_insert : (a : K) → R a k ≡ Less → (ks : List K) → AllByRecursion (λ y. R a y ≡ Less) ks
        → AllByRecursion (λ y. R a y ≡ Less) (insert_key R ks k)
    all_insert a h [] all = (h, tt)
    all_insert a h (x ∷ xs) all =
        elim (R k x) as (λ r. AllByRecursion (λ y. R a y ≡ Less) (placed_by r x xs))
        [ Less ↦ (h, all) | Equal ↦ all | Greater ↦ (all.0, all_insert a h xs all.1) ]

    insert_by : (x : K) (xs : List K) → IsStrictlySortedBy R (x ∷ xs) → IsStrictlySortedBy R (insert_key R xs k)
        → (r : Ordering) → R k x ≡ r → IsStrictlySortedBy R (placed_by r x xs)
    unfolding IsStrictlySortedBy
    insert_by x xs s h Less q = ((q, all_below o k x xs q s.0), s)
    insert_by x xs s h Equal q = s
    insert_by x xs s h Greater q = (all_insert x (o.antisymm x k ∙ ap ordering_reverse q) xs s.0, h)

    pub sorted-insert_key : (xs : List K) → IsStrictlySortedBy R xs → IsStrictlySortedBy R (insert_key R xs k)
    unfolding IsStrictlySortedBy
    sorted-insert_key [] s = (tt, tt)
    sorted-insert_key (x ∷ xs) s = insert_by x xs s (sorted-insert_key xs s.1) (R k x) refl

    any_by : (p x : K) (xs : List K)
        → list_any (is_at (R p)) (insert_key R xs k) ≡ cond (is_at (R k) p) true (list_any (is_at (R p)) xs)
        → (r : Ordering) → R k x ≡ r → (b : Bool) → is_at (R k) p ≡ b → (d : Bool) → is_at (R p) x ≡ d
        → list_any (is_at (R p)) (placed_by r x xs) ≡ cond b true (d || list_any (is_at (R p)) xs)
    any_by p x xs h Less q true y d z = rw ((eq_by_cmp_equiv o).symm p k ∙ y) refl
    any_by p x xs h Less q false y d z = rw ((eq_by_cmp_equiv o).symm p k ∙ y, z) refl
    any_by p x xs h Equal q true y d z = rw (sym ((eq_by_cmp_equiv o).congr k p x y) ∙ ap is_eq q) refl
    any_by p x xs h Equal q false y d z = rw z refl
    any_by p x xs h Greater q true y true z = rw z refl
    any_by p x xs h Greater q true y false z = rw z (h ∙ ap (λ c. cond c true (list_any (is_at (R p)) xs)) y)
    any_by p x xs h Greater q false y true z = rw z refl
    any_by p x xs h Greater q false y false z = rw z (h ∙ ap (λ c. cond c true (list_any (is_at (R p)) xs)) y)

    pub any-insert_key : (p : K) (xs : List K) → list_any (is_at (R p)) (insert_key R xs k)
        ≡ cond (is_at (R k) p) true (list_any (is_at (R p)) xs)
    any-insert_key p [] =
        rw ((eq_by_cmp_equiv o).symm p k)
        (elim (is_at (R k) p) as (λ b. (b || false) ≡ cond b true false) [ true ↦ refl | false ↦ refl ])
    any-insert_key p (x ∷ xs) =
        any_by p x xs (any-insert_key p xs) (R k x) refl (is_at (R k) p) refl (is_at (R p) x) refl

    abbrev like : K → K → Bool
    like x y = is_at (R x) y

    -- a key that is like k isn't among those above one that is like k
    none-above : (p x : K) → like k p ≡ true → like k x ≡ true → (ys : List K) → AllByRecursion (λ y. R x y ≡ Less) ys
        → list_any (like p) ys ≡ false
    none-above p x a b [] all = refl
    none-above p x a b (y ∷ ys) all =
        let same = eq_by_cmp_equiv o in
        let unlike : like p y ≡ false =
        sym (same.congr k p y a) ∙ same.congr k x y b ∙ ap is_eq all.0 in
        rw unlike (none-above p x a b ys all.1)

    without-by : (p x : K) (xs : List K) → AllByRecursion (λ y. R x y ≡ Less) xs
        → list_any (like p) (remove_key (like k) xs) ≡ cond (like k p) false (list_any (like p) xs)
        → (b : Bool) → like k x ≡ b → (d : Bool) → like k p ≡ d
        → list_any (like p) (cond b xs (x ∷ remove_key (like k) xs))
        ≡ cond d false (like p x || list_any (like p) xs)
    without-by p x xs all h true q true y = none-above p x y q xs all
    without-by p x xs all h true q false y =
        let same = eq_by_cmp_equiv o in
        rw (same.symm p x ∙ sym (same.congr k x p q) ∙ y) refl
    without-by p x xs all h false q true y =
        let same = eq_by_cmp_equiv o in
        rw (sym (same.congr k p x y) ∙ q) (h ∙ ap (λ c. cond c false (list_any (like p) xs)) y)
    without-by p x xs all h false q false y =
        ap (λ c. like p x || c) (h ∙ ap (λ c. cond c false (list_any (like p) xs)) y)

    pub any-remove_key : (p : K) (xs : List K) → IsStrictlySortedBy R xs
        → list_any (is_at (R p)) (remove_key (is_at (R k)) xs) ≡ cond (is_at (R k) p) false (list_any (is_at (R p)) xs)
    unfolding IsStrictlySortedBy
    any-remove_key p [] s = elim (is_at (R k) p) as (λ b. false ≡ cond b false false) [ true ↦ refl | false ↦ refl ]
    any-remove_key p (x ∷ xs) s =
        without-by p x xs s.0 (any-remove_key p xs s.1) (like k x) refl (like k p) refl
