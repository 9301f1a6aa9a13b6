-- A multiset that counts values has their number, their sum, their least and their greatest.
use Rattle.std.proofs.Common.{◌≡◌, refl, ap, sym, ◌∙◌, arith, ℕ, ◌+◌, ◌<◌, List, [], ◌∷◌, subst, option_map}
use Rattle.std.specs.Prelude.{Bool, true, false, cond, Some, None, Option, count_by, suc}
use Rattle.std.specs.Option.{unwrap_or}
use Rattle.std.specs.List.{All}
use Rattle.std.specs.Cmp.{eq_by_cmp_equiv, tied_itself}
use Rattle.std.specs.Ordering.{is_eq, ordering_reverse}
use Rattle.std.specs.declared.cmp.Ordering.{Ordering}
use Rattle.std.specs.declared.cmp.Ordering.TheVariants.{Less, Equal, Greater}
use Rattle.std.proofs.lemmas.Map.{lookup-none, NonePasses}
use Rattle.std.proofs.lemmas.Map.Keys.{sorted_tail, IsDistinct-from_sorted}
use Rattle.std.specs.Map.{lookup, keys_of, values_of}
use Rattle.std.specs.BTreeMap.{insert_entry, is_at}
use Rattle.std.specs.List.Sorted.{IsStrictlySortedBy}
use Rattle.std.proofs.lemmas.Int.{ints}
use Rattle.std.proofs.lemmas.List.Sums.{sum_by-cons}
use Rattle.std.proofs.lemmas.Map.Entries.{none_past_head, none_below_head}
use Rattle.std.proofs.lemmas.Map.Views.{All-values-insert_entry}
use Rattle.view_lang.specs.SortedEntries.{sorted-insert_entry, lookup-insert_entry}
use Rattle.values.specs.declared.key.Key.{Key}
use Rattle.group_state.specs.Keys.{key_cmp, key_total}
use Rattle.group_state.specs.Counts.{had, put_one, weighted}
use Rattle.values.specs.Datum.{Datum, is_null}
use Rattle.values.specs.Keys.{key_of}
use Rattle.std.specs.Ordering.{match_ordering}
use Rattle.group_state.specs.Cells.{KeepsValues, is_value, is_key}
use Rattle.group_state.specs.Folds.{multiset_of, sum_of, times_in, keys_in, push_key, least_of, lesser, first_of}
use Rattle.view_lang.proofs.ExactKeys.{key_exact}
use Rattle.group_state.proofs.Had.{had-put}
use Rattle.group_state.proofs.Weights.{weighted-put}

pub multiset-sorted : (ks : List Key) → IsStrictlySortedBy key_cmp (keys_of (multiset_of ks))
unfolding IsStrictlySortedBy
multiset-sorted [] = tt
multiset-sorted (k ∷ ks) = sorted-insert_entry key_total k (had (multiset_of ks) k + 1) (multiset_of ks)
    (multiset-sorted ks)

pub multiset-present : (ks : List Key) → All (λ n. 0 < n) (values_of (multiset_of ks))
multiset-present [] = λ k d h. absurd (omega arith)
multiset-present (k ∷ ks) = All-values-insert_entry key_cmp k (had (multiset_of ks) k + 1) (λ n. 0 < n) (multiset_of ks)
    (multiset-present ks) (omega arith)

pub multiset-had : (ks : List Key) (q : Key) → had (multiset_of ks) q ≡ times_in q ks
multiset-had [] q = refl
multiset-had (k ∷ ks) q =
    let a = had-put k 1 (multiset_of ks) q (lookup (is_at (key_cmp q)) (put_one k (multiset_of ks)))
    (lookup-insert_entry key_total k q (had (multiset_of ks) k + 1) (multiset_of ks)) in
    let h = multiset-had ks q in
    let s = sum_by-cons (λ (x : Key). cond (is_at (key_cmp x) q) 1 0) k ks in
    omega (arith, a, h, s)

option_same : (o : Option ℕ) → unwrap_or (option_map (λ x. x) o) 0 ≡ unwrap_or o 0
option_same None = refl
option_same (Some n) = refl

pub multiset-sum : (ks : List Key) → weighted (multiset_of ks) ≡ sum_of ks
multiset-sum [] = refl
multiset-sum (k ∷ ks) =
    let h = weighted-put k (multiset_of ks) (multiset-sorted ks) in
    let i = multiset-sum ks in
    omega (arith, ints, h, i)

-- entries that count alike are the same
pub key_itself : (a : Key) → is_at (key_cmp a) a ≡ true
key_itself a = ap is_eq (tied_itself key_total a)

head-had : (e : Key × ℕ) (es : List (Key × ℕ)) → had (e ∷ es) e.0 ≡ e.1
head-had e es = rw (key_itself e.0) refl

tail-had : (e : Key × ℕ) (es : List (Key × ℕ)) (q : Key) → is_at (key_cmp q) e.0 ≡ false → had (e ∷ es) q ≡ had es q
tail-had e es q h = rw h refl

none-had : (q : Key) (es : List (Key × ℕ)) → NonePasses (is_at (key_cmp q)) es → had es q ≡ 0
none-had q es h = ap (λ o. unwrap_or o 0) (lookup-none (is_at (key_cmp q)) es h)

head_by : (e : Key × ℕ) (es : List (Key × ℕ)) → IsStrictlySortedBy key_cmp (keys_of (e ∷ es)) → (q : Key) (b : Bool)
    → is_at (key_cmp q) e.0 ≡ b
    → unwrap_or (cond b (Some e.1) (lookup (is_at (key_cmp q)) es)) 0 ≡ cond b e.1 0 + had es q
head_by e es s q true x =
    let none : had es q ≡ 0 =
    none-had q es
    (none_past_head (eq_by_cmp_equiv key_total) q e es (IsDistinct-from_sorted key_cmp (keys_of (e ∷ es)) s) x) in
    omega (arith, none)
head_by e es s q false x = omega arith

-- what the first entry adds to the others
pub had-first : (e : Key × ℕ) (es : List (Key × ℕ)) → IsStrictlySortedBy key_cmp (keys_of (e ∷ es)) → (q : Key)
    → had (e ∷ es) q ≡ cond (is_at (key_cmp e.0) q) e.1 0 + had es q
had-first e es s q =
    head_by e es s q (is_at (key_cmp q) e.0) refl
    ∙ ap (λ b. cond b e.1 0 + had es q) ((eq_by_cmp_equiv key_total).symm q e.0)

tails : (e f : Key × ℕ) (es fs : List (Key × ℕ)) → IsStrictlySortedBy key_cmp (keys_of (e ∷ es))
    → IsStrictlySortedBy key_cmp (keys_of (f ∷ fs)) → e.0 ≡ f.0
    → ((q : Key) → had (e ∷ es) q ≡ had (f ∷ fs) q) → (q : Key) → (b : Bool) → is_at (key_cmp q) e.0 ≡ b
    → had es q ≡ had fs q
tails e f es fs s t k h q true x =
    none-had q es
    (none_past_head (eq_by_cmp_equiv key_total) q e es (IsDistinct-from_sorted key_cmp (keys_of (e ∷ es)) s) x)
    ∙ sym (none-had q fs
    (none_past_head (eq_by_cmp_equiv key_total) q f fs (IsDistinct-from_sorted key_cmp (keys_of (f ∷ fs)) t)
    (subst (λ (y : Key). is_at (key_cmp q) y ≡ true) k x)))
tails e f es fs s t k h q false x =
    sym (tail-had e es q x) ∙ h q ∙ tail-had f fs q (subst (λ (y : Key). is_at (key_cmp q) y ≡ false) k x)

heads : (e f : Key × ℕ) (es fs : List (Key × ℕ)) → e.0 ≡ f.0 → ((q : Key) → had (e ∷ es) q ≡ had (f ∷ fs) q) → e.1 ≡ f.1
heads e f es fs k h = sym (head-had e es) ∙ h e.0 ∙ ap (had (f ∷ fs)) k ∙ head-had f fs

below : (e f : Key × ℕ) (es fs : List (Key × ℕ)) → IsStrictlySortedBy key_cmp (keys_of (f ∷ fs)) → 0 < e.1
    → ((q : Key) → had (e ∷ es) q ≡ had (f ∷ fs) q) → key_cmp e.0 f.0 ≡ Less → ⊥
below e f es fs t p h q =
    let a = head-had e es in
    let b = none-had e.0 (f ∷ fs) (none_below_head key_total e.0 f fs t q) in
    let c = h e.0 in
    omega (arith, a, b, c)

same-by : (e f : Key × ℕ) (es fs : List (Key × ℕ)) → IsStrictlySortedBy key_cmp (keys_of (e ∷ es))
    → IsStrictlySortedBy key_cmp (keys_of (f ∷ fs)) → 0 < e.1 → 0 < f.1
    → (((q : Key) → had es q ≡ had fs q) → es ≡ fs) → ((q : Key) → had (e ∷ es) q ≡ had (f ∷ fs) q) → (r : Ordering)
    → key_cmp e.0 f.0 ≡ r → e ∷ es ≡ f ∷ fs
same-by e f es fs s t p u i h Less x = absurd (below e f es fs t p h x)
same-by e f es fs s t p u i h Equal x =
    let k = key_exact e.0 f.0 x in
    let n = heads e f es fs k h in
    let m = i (λ q. tails e f es fs s t k h q (is_at (key_cmp q) e.0) refl) in
    let pair : e ≡ f = (λ j. (k j, n j)) in
    cc
same-by e f es fs s t p u i h Greater x =
    absurd (below f e fs es s u (λ q. sym (h q)) (key_total.antisymm f.0 e.0 ∙ ap ordering_reverse x))

pub same-counts : (es fs : List (Key × ℕ)) → IsStrictlySortedBy key_cmp (keys_of es)
    → IsStrictlySortedBy key_cmp (keys_of fs)
    → All (λ n. 0 < n) (values_of es) → All (λ n. 0 < n) (values_of fs) → ((q : Key) → had es q ≡ had fs q) → es ≡ fs
same-counts [] [] s t p u h = refl
same-counts [] (f ∷ fs) s t p u h =
    let a = head-had f fs in
    let b = h f.0 in
    let c = u 0 0 (omega arith) in
    absurd (omega (arith, a, b, c))
same-counts (e ∷ es) [] s t p u h =
    let a = head-had e es in
    let b = h e.0 in
    let c = p 0 0 (omega arith) in
    absurd (omega (arith, a, b, c))
same-counts (e ∷ es) (f ∷ fs) s t p u h =
    same-by e f es fs s t (p 0 0 (omega arith)) (u 0 0 (omega arith))
    (same-counts es fs (sorted_tail key_cmp e.0 (keys_of es) s) (sorted_tail key_cmp f.0 (keys_of fs) t)
    (λ k d l. p (suc k) d (omega arith)) (λ k d l. u (suc k) d (omega arith)))
    h (key_cmp e.0 f.0) refl

-- a multiset is a function of the values that it counts
pub entries-from_counts : (es : List (Key × ℕ)) (ks : List Key) → IsStrictlySortedBy key_cmp (keys_of es)
    → All (λ n. 0 < n) (values_of es) → ((q : Key) → had es q ≡ times_in q ks) → es ≡ multiset_of ks
entries-from_counts es ks s p h = same-counts es (multiset_of ks) s (multiset-sorted ks) p (multiset-present ks)
    (λ q. h q ∙ sym (multiset-had ks q))

-- cells that hold a value are counted by their keys
key-by : (q : Key) (d : Datum) (ds : List Datum) → count_by (is_value q) ds ≡ times_in q (keys_in ds) → (b : Bool)
    → is_null d ≡ b → (o : Option Key) → key_of d ≡ o
    → cond (cond b false (is_key q o)) 1 0 + count_by (is_value q) ds ≡ times_in q
    (push_key (cond b None o) (keys_in ds))
key-by q d ds h true x o y = omega (arith, h)
key-by q d ds h false x None y = omega (arith, h)
key-by q d ds h false x (Some k) y =
    let s = sum_by-cons (λ (x : Key). cond (is_at (key_cmp x) q) 1 0) k (keys_in ds) in
    omega (arith, h, s)

pub count-values : (q : Key) (ds : List Datum) → count_by (is_value q) ds ≡ times_in q (keys_in ds)
count-values q [] = refl
count-values q (d ∷ ds) = sum_by-cons (λ (x : Datum). cond (is_value q x) 1 0) d ds
    ∙ key-by q d ds (count-values q ds) (is_null d) refl (key_of d) refl

pub kept-values : (es : List (Key × ℕ)) (cells : List Datum) → KeepsValues es cells → es ≡ multiset_of (keys_in cells)
kept-values es cells k = entries-from_counts es (keys_in cells) k.ascending k.present
    (λ q. k.values_are q ∙ count-values q cells)

-- the first of a multiset is the least of its values
first-put : (k : Key) (v : ℕ) (es : List (Key × ℕ)) → first_of (insert_entry key_cmp es k v)
    ≡ Some (lesser k (first_of es))
first-put k v [] = refl
first-put k v (e ∷ es) =
    elim (key_cmp k e.0) as
    (λ r. first_of (match_ordering r ((k, v) ∷ e ∷ es) ((e.0, v) ∷ es) (e ∷ insert_entry key_cmp es k v))
    ≡ Some (match_ordering r k e.0 e.0)) [ Less ↦ refl | Equal ↦ refl | Greater ↦ refl ]

pub multiset-least : (ks : List Key) → first_of (multiset_of ks) ≡ least_of ks
multiset-least [] = refl
multiset-least (k ∷ ks) = first-put k (had (multiset_of ks) k + 1) (multiset_of ks)
    ∙ ap (λ o. Some (lesser k o)) (multiset-least ks)
