-- Entries stay in the order of their keys.
use Rattle.std.specs.Prelude.{◌≡◌, Bool, true, false, cond, Some, None, List, [], ◌∷◌, refl}
use Rattle.std.proofs.Common.{ap, sym, ◌∙◌, true≢false}
use Rattle.std.specs.declared.cmp.Ordering.{Ordering}
use Rattle.std.specs.declared.cmp.Ordering.TheVariants.{Less, Equal, Greater}
use Rattle.std.specs.Ordering.{match_ordering, ordering_reverse, is_eq, eq_by_cmp}
use Rattle.std.specs.Cmp.{IsTotalOrder, eq_by_cmp_equiv}
use Rattle.std.specs.List.{AllByRecursion}
use Rattle.std.specs.List.Sorted.{IsStrictlySortedBy}
use Rattle.std.specs.Map.{keys_of, remove_entry, lookup}
use Rattle.std.specs.BTreeMap.{insert_entry, is_at}

module _ {K : Type 0} {R : K → K → Ordering} (o : IsTotalOrder R) where
  pub all_below : (a b : K) (ks : List K) → R a b ≡ Less → AllByRecursion (λ y. R b y ≡ Less) ks
      → AllByRecursion (λ y. R a y ≡ Less) ks
  all_below a b [] h all = tt
  all_below a b (k ∷ ks) h all = (o.trans a b k h all.0, all_below a b ks h all.1)

module _ {K X : Type 0} {R : K → K → Ordering} (o : IsTotalOrder R) where
  module _ (k : K) (v : X) where
    all_insert : (a : K) → R a k ≡ Less → (es : List (K × X)) → AllByRecursion (λ y. R a y ≡ Less) (keys_of es)
        → AllByRecursion (λ y. R a y ≡ Less) (keys_of (insert_entry R es k v))
    all_insert a h [] all = (h, tt)
    all_insert a h (e ∷ es) all =
        elim (R k e.0) as
        (λ r. AllByRecursion (λ y. R a y ≡ Less)
        (keys_of (match_ordering r ((k, v) ∷ e ∷ es) ((e.0, v) ∷ es) (e ∷ insert_entry R es k v))))
        [ Less ↦ (h, all) | Equal ↦ all | Greater ↦ (all.0, all_insert a h es all.1) ]

    insert_by : (e : K × X) (es : List (K × X)) → IsStrictlySortedBy R (keys_of (e ∷ es))
        → IsStrictlySortedBy R (keys_of (insert_entry R es k v)) → (r : Ordering) → R k e.0 ≡ r
        → IsStrictlySortedBy R
        (keys_of (match_ordering r ((k, v) ∷ e ∷ es) ((e.0, v) ∷ es) (e ∷ insert_entry R es k v)))
    unfolding IsStrictlySortedBy
    insert_by e es s h Less q = ((q, all_below o k e.0 (keys_of es) q s.0), s)
    insert_by e es s h Equal q = s
    insert_by e es s h Greater q = (all_insert e.0 (o.antisymm e.0 k ∙ ap ordering_reverse q) es s.0, h)

    pub sorted-insert_entry : (es : List (K × X)) → IsStrictlySortedBy R (keys_of es)
        → IsStrictlySortedBy R (keys_of (insert_entry R es k v))
    unfolding IsStrictlySortedBy
    sorted-insert_entry [] s = (tt, tt)
    sorted-insert_entry (e ∷ es) s = insert_by e es s (sorted-insert_entry es s.1) (R k e.0) refl

  module _ (test : K → Bool) where
    all_remove : (P : K → Type 0) (es : List (K × X)) → AllByRecursion P (keys_of es)
        → AllByRecursion P (keys_of (remove_entry test es))
    all_remove P [] all = tt
    all_remove P (e ∷ es) all =
        elim (test e.0) as (λ b. AllByRecursion P (keys_of (cond b es (e ∷ remove_entry test es))))
        [ true ↦ all.1 | false ↦ (all.0, all_remove P es all.1) ]

    pub sorted-remove_entry : (es : List (K × X)) → IsStrictlySortedBy R (keys_of es)
        → IsStrictlySortedBy R (keys_of (remove_entry test es))
    unfolding IsStrictlySortedBy
    sorted-remove_entry [] s = tt
    sorted-remove_entry (e ∷ es) s =
        elim (test e.0) as (λ b. IsStrictlySortedBy R (keys_of (cond b es (e ∷ remove_entry test es))))
        [ true ↦ s.1 | false ↦ (all_remove (λ y. R e.0 y ≡ Less) es s.0, sorted-remove_entry es s.1) ]

  -- what a look-up finds after an insertion
  module _ (k q : K) (v : X) where
    found_by : (e : K × X) (es : List (K × X)) → lookup (is_at (R q)) (insert_entry R es k v)
        ≡ cond (is_at (R k) q) (Some v) (lookup (is_at (R q)) es) → (r : Ordering) → R k e.0 ≡ r
        → (b : Bool) → is_at (R k) q ≡ b → (d : Bool) → is_at (R q) e.0 ≡ d
        → lookup (is_at (R q)) (match_ordering r ((k, v) ∷ e ∷ es) ((e.0, v) ∷ es) (e ∷ insert_entry R es k v))
        ≡ cond b (Some v) (cond d (Some e.1) (lookup (is_at (R q)) es))
    found_by e es h Less p b x d y = rw ((eq_by_cmp_equiv o).symm q k ∙ x, y) refl
    found_by e es h Equal p true x true y = rw y refl
    found_by e es h Equal p true x false y =
        let same : eq_by_cmp R q e.0 ≡ eq_by_cmp R k e.0 = sym ((eq_by_cmp_equiv o).congr k q e.0 x) in
        let eq : is_eq (R k e.0) ≡ true = ap is_eq p in
        absurd (true≢false (sym eq ∙ sym same ∙ y))
    found_by e es h Equal p false x true y =
        let eq : is_eq (R k e.0) ≡ true = ap is_eq p in
        let same : eq_by_cmp R k q ≡ eq_by_cmp R e.0 q = (eq_by_cmp_equiv o).congr k e.0 q eq in
        absurd (true≢false (sym y ∙ (eq_by_cmp_equiv o).symm q e.0 ∙ sym same ∙ x))
    found_by e es h Equal p false x false y = rw y refl
    found_by e es h Greater p true x true y =
        let same : eq_by_cmp R q e.0 ≡ eq_by_cmp R k e.0 = sym ((eq_by_cmp_equiv o).congr k q e.0 x) in
        let eq : is_eq (R k e.0) ≡ false = ap is_eq p in
        absurd (true≢false (sym y ∙ same ∙ eq))
    found_by e es h Greater p true x false y = rw y (h ∙ ap (λ c. cond c (Some v) (lookup (is_at (R q)) es)) x)
    found_by e es h Greater p false x true y = rw y refl
    found_by e es h Greater p false x false y = rw y (h ∙ ap (λ c. cond c (Some v) (lookup (is_at (R q)) es)) x)

    pub lookup-insert_entry : (es : List (K × X)) → lookup (is_at (R q)) (insert_entry R es k v)
        ≡ cond (is_at (R k) q) (Some v) (lookup (is_at (R q)) es)
    lookup-insert_entry [] = ap (λ b. cond b (Some v) None) ((eq_by_cmp_equiv o).symm q k)
    lookup-insert_entry (e ∷ es) = found_by e es (lookup-insert_entry es) (R k e.0) refl (is_at (R k) q) refl
        (is_at (R q) e.0) refl
