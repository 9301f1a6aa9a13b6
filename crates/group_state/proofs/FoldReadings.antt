-- What is read of a multiset is the definition's fold over the cells.
use Rattle.std.proofs.Common.{◌≡◌, refl, ap, sym, ◌∙◌, subst, true≢false, arith}
use Rattle.std.proofs.lemmas.Option.{slice_get_within, get_or_from_slice_get}
use Rattle.std.specs.Prelude.{ℕ, ◌+◌, ◌-◌, slice_get, pos, ◌+ℤ◌, zero, suc, Bool, true, false, cond, List, [], ◌∷◌, length, get_or, Option, None, Some, count_by, FitsSigned, ◌<◌}
use Rattle.std.specs.List.{AllByRecursion}
use Rattle.std.specs.List.Sorted.{IsStrictlySortedBy}
use Rattle.std.specs.Map.{keys_of}
use Rattle.std.specs.BTreeMap.{insert_entry}
use Rattle.std.specs.Ordering.{is_gt, match_ordering, ordering_reverse}
use Rattle.std.specs.declared.cmp.Ordering.{Ordering}
use Rattle.std.specs.declared.cmp.Ordering.TheVariants.{Less, Equal, Greater}
use Rattle.std.proofs.lemmas.Int.{ints, int_wrap_fits}
use Rattle.std.proofs.lemmas.List.Sums.{length-filter}
use Rattle.view_lang.specs.SortedEntries.{all_below}
use Rattle.values.specs.Datum.{Datum, null, truth, whole, text, bytes, list, structure, is_null}
use Rattle.values.specs.Order.{datum_cmp}
use Rattle.values.specs.Keys.{datum_of_key}
use Rattle.values.specs.declared.key.Key.{Key}
use Rattle.values.specs.declared.key.Key.TheVariants as key
use Rattle.view_lang.specs.RowOrder.{cell_cmp}
use Rattle.view_lang.specs.Folds.{total, first_in, earlier, sum_of as sum_by, count_of}
use Rattle.view_lang.specs.Aggregates.{IsKeyCell}
use Rattle.view_lang.specs.declared.view.Direction.TheVariants as direction
use Rattle.group_state.specs.Keys.{key_cmp, key_total, datum_in}
use Rattle.group_state.specs.Counts.{had}
use Rattle.group_state.specs.Cells.{is_filled, KeepsTotal, KeepsValues}
use Rattle.group_state.specs.Folds.{
  keys_in,
  sum_of,
  lesser,
  least_of,
  greater,
  greatest_of,
  last_of,
  first_of,
  multiset_of,
}
use Rattle.group_state.specs.Reading.{filled}
use Rattle.view_lang.proofs.ExactKeys.{key_exact}
use Rattle.group_state.proofs.KeyData.{key-data}
use Rattle.group_state.proofs.Folds.{multiset-sorted, multiset-least, kept-values}
use Rattle.group_state.specs.declared.total.Total.{Total}
use mir.Syntax.{w128}

pub count-filled : (ds : List Datum) → count_by is_filled ds ≡ length (filled ds)
count-filled ds = sym (length-filter is_filled ds)

pub sum-total : (ds : List Datum) → sum_of (keys_in ds) ≡ total (filled ds)
unfolding total
sum-total [] = refl
sum-total (null ∷ ds) = sum-total ds
sum-total (truth b ∷ ds) = ap (λ n. pos 0 +ℤ n) (sum-total ds)
sum-total (whole n ∷ ds) = ap (λ m. n +ℤ m) (sum-total ds)
sum-total (text t ∷ ds) = ap (λ n. pos 0 +ℤ n) (sum-total ds)
sum-total (bytes b ∷ ds) = ap (λ n. pos 0 +ℤ n) (sum-total ds)
sum-total (list es ∷ ds) = let h : sum_of (keys_in ds) ≡ total (filled ds) = sum-total ds in omega (arith, ints, h)
sum-total (structure es ∷ ds) = let h : sum_of (keys_in ds) ≡ total (filled ds) = sum-total ds in omega (arith, ints, h)

-- the least
least_null : (k : Key) → earlier direction.Ascending (datum_of_key k) null ≡ datum_of_key k
least_null (key.Bool b) = refl
least_null (key.Int n) = refl
least_null (key.Utf8 t) = refl
least_null (key.Binary b) = refl
least_null key.Null = refl

least_some : (k m : Key) (r : Ordering) → key_cmp k m ≡ r → cond (is_gt r) (datum_of_key m) (datum_of_key k)
    ≡ datum_of_key (match_ordering r k m m)
least_some k m Less e = refl
least_some k m Equal e = ap datum_of_key (key_exact k m e)
least_some k m Greater e = refl

step-least : (k : Key) (o : Option Key) → earlier direction.Ascending (datum_of_key k) (datum_in o)
    ≡ datum_of_key (lesser k o)
step-least k None = least_null k
step-least k (Some m) =
    ap (λ (r : Ordering). cond (is_gt r) (datum_of_key m) (datum_of_key k)) (sym (key-data k m))
    ∙ least_some k m (key_cmp k m) refl

pub least-is : (ds : List Datum) → AllByRecursion IsKeyCell ds → datum_in (least_of (keys_in ds))
    ≡ first_in direction.Ascending (filled ds)
unfolding first_in
least-is [] a = refl
least-is (null ∷ ds) a = least-is ds a.1
least-is (truth b ∷ ds) a = sym (step-least (key.Bool b) (least_of (keys_in ds)))
    ∙ ap (earlier direction.Ascending (truth b)) (least-is ds a.1)
least-is (whole n ∷ ds) a = sym (step-least (key.Int n) (least_of (keys_in ds)))
    ∙ ap (earlier direction.Ascending (whole n)) (least-is ds a.1)
least-is (text t ∷ ds) a = sym (step-least (key.Utf8 t) (least_of (keys_in ds)))
    ∙ ap (earlier direction.Ascending (text t)) (least-is ds a.1)
least-is (bytes b ∷ ds) a = sym (step-least (key.Binary b) (least_of (keys_in ds)))
    ∙ ap (earlier direction.Ascending (bytes b)) (least-is ds a.1)
least-is (list es ∷ ds) a = absurd (true≢false (sym a.0))
least-is (structure es ∷ ds) a = absurd (true≢false (sym a.0))

-- the greatest, of values that aren't null
abbrev IsSet : Key → Type 0
IsSet k = is_null (datum_of_key k) ≡ false

abbrev IsSetIn : Option Key → Type 0
IsSetIn None = Unit {0}
IsSetIn (Some k) = IsSet k

greater-set : (k : Key) (o : Option Key) → IsSet k → IsSetIn o → IsSet (greater k o)
greater-set k None s t = s
greater-set k (Some m) s t = elim (is_gt (key_cmp m k)) as (λ b. IsSet (cond b m k)) [ true ↦ t | false ↦ s ]

keys-set : (ds : List Datum) → IsSetIn (greatest_of (keys_in ds))
keys-set [] = tt
keys-set (null ∷ ds) = keys-set ds
keys-set (truth b ∷ ds) = greater-set (key.Bool b) (greatest_of (keys_in ds)) refl (keys-set ds)
keys-set (whole n ∷ ds) = greater-set (key.Int n) (greatest_of (keys_in ds)) refl (keys-set ds)
keys-set (text t ∷ ds) = greater-set (key.Utf8 t) (greatest_of (keys_in ds)) refl (keys-set ds)
keys-set (bytes b ∷ ds) = greater-set (key.Binary b) (greatest_of (keys_in ds)) refl (keys-set ds)
keys-set (list es ∷ ds) = keys-set ds
keys-set (structure es ∷ ds) = keys-set ds

greatest_null : (k : Key) → earlier direction.Descending (datum_of_key k) null ≡ datum_of_key k
greatest_null (key.Bool b) = refl
greatest_null (key.Int n) = refl
greatest_null (key.Utf8 t) = refl
greatest_null (key.Binary b) = refl
greatest_null key.Null = refl

turned : (a b : Datum) → is_null a ≡ false → is_null b ≡ false → cell_cmp direction.Descending a b ≡ datum_cmp b a
turned a b x y = rw (x, y) refl

greatest_some : (k m : Key) (b : Bool) → cond b (datum_of_key m) (datum_of_key k) ≡ datum_of_key (cond b m k)
greatest_some k m true = refl
greatest_some k m false = refl

step-greatest : (k : Key) (o : Option Key) → IsSet k → IsSetIn o → earlier direction.Descending (datum_of_key k)
    (datum_in o) ≡ datum_of_key (greater k o)
step-greatest k None s t = greatest_null k
step-greatest k (Some m) s t =
    ap (λ (r : Ordering). cond (is_gt r) (datum_of_key m) (datum_of_key k))
    (turned (datum_of_key k) (datum_of_key m) s t ∙ sym (key-data m k)) ∙ greatest_some k m (is_gt (key_cmp m k))

pub greatest-is : (ds : List Datum) → AllByRecursion IsKeyCell ds → datum_in (greatest_of (keys_in ds))
    ≡ first_in direction.Descending (filled ds)
unfolding first_in
greatest-is [] a = refl
greatest-is (null ∷ ds) a = greatest-is ds a.1
greatest-is (truth b ∷ ds) a = sym (step-greatest (key.Bool b) (greatest_of (keys_in ds)) refl (keys-set ds))
    ∙ ap (earlier direction.Descending (truth b)) (greatest-is ds a.1)
greatest-is (whole n ∷ ds) a = sym (step-greatest (key.Int n) (greatest_of (keys_in ds)) refl (keys-set ds))
    ∙ ap (earlier direction.Descending (whole n)) (greatest-is ds a.1)
greatest-is (text t ∷ ds) a = sym (step-greatest (key.Utf8 t) (greatest_of (keys_in ds)) refl (keys-set ds))
    ∙ ap (earlier direction.Descending (text t)) (greatest-is ds a.1)
greatest-is (bytes b ∷ ds) a = sym (step-greatest (key.Binary b) (greatest_of (keys_in ds)) refl (keys-set ds))
    ∙ ap (earlier direction.Descending (bytes b)) (greatest-is ds a.1)
greatest-is (list es ∷ ds) a = absurd (true≢false (sym a.0))
greatest-is (structure es ∷ ds) a = absurd (true≢false (sym a.0))

-- the last of a multiset is the greatest of its values
last-above : (k : Key) (e : Key × ℕ) (es : List (Key × ℕ)) → AllByRecursion (λ y. key_cmp k y ≡ Less) (keys_of (e ∷ es))
    → last_of (e ∷ es) ≡ Some (greater k (last_of (e ∷ es)))
last-above k e [] a =
    let up : key_cmp e.0 k ≡ Greater = key_total.antisymm e.0 k ∙ ap ordering_reverse a.0 in
    ap (λ (r : Ordering). Some (cond (is_gt r) e.0 k)) (sym up)
last-above k e (f ∷ es) a = last-above k f es a.1

last-cons : (e : Key × ℕ) (xs : List (Key × ℕ)) (k : Key) → last_of xs ≡ Some k → last_of (e ∷ xs) ≡ Some k
last-cons e [] k h = absurd (cc)
last-cons e (x ∷ xs) k h = h

equal_by : (k : Key) (v : ℕ) (e : Key × ℕ) (es : List (Key × ℕ)) → AllByRecursion (λ y. key_cmp k y ≡ Less) (keys_of es)
    → k ≡ e.0 → last_of ((e.0, v) ∷ es) ≡ Some (greater k (last_of (e ∷ es)))
equal_by k v e [] a x = elim (is_gt (key_cmp e.0 k)) as (λ b. Some e.0 ≡ Some (cond b e.0 k))
    [ true ↦ refl | false ↦ ap Some (sym x) ]
equal_by k v e (f ∷ es) a x = last-above k f es a

greater_by : (k : Key) (e : Key × ℕ) (es : List (Key × ℕ)) → key_cmp k e.0 ≡ Greater
    → greater k (last_of es) ≡ greater k (last_of (e ∷ es))
greater_by k e [] q =
    let down : key_cmp e.0 k ≡ Less = key_total.antisymm e.0 k ∙ ap ordering_reverse q in
    ap (λ (r : Ordering). cond (is_gt r) e.0 k) (sym down)
greater_by k e (f ∷ es) q = refl

put_by : (k : Key) (v : ℕ) (e : Key × ℕ) (es : List (Key × ℕ)) → IsStrictlySortedBy key_cmp (keys_of (e ∷ es))
    → last_of (insert_entry key_cmp es k v) ≡ Some (greater k (last_of es)) → (r : Ordering) → key_cmp k e.0 ≡ r
    → last_of (match_ordering r ((k, v) ∷ e ∷ es) ((e.0, v) ∷ es) (e ∷ insert_entry key_cmp es k v))
    ≡ Some (greater k (last_of (e ∷ es)))
unfolding IsStrictlySortedBy
put_by k v e es s h Less q = last-above k e es (q, all_below key_total k e.0 (keys_of es) q s.0)
put_by k v e es s h Equal q =
    let x = key_exact k e.0 q in
    equal_by k v e es (subst (λ (z : Key). AllByRecursion (λ y. key_cmp z y ≡ Less) (keys_of es)) (sym x) s.0) x
put_by k v e es s h Greater q = last-cons e (insert_entry key_cmp es k v) _ h ∙ ap Some (greater_by k e es q)

last-put : (k : Key) (v : ℕ) (es : List (Key × ℕ)) → IsStrictlySortedBy key_cmp (keys_of es)
    → last_of (insert_entry key_cmp es k v) ≡ Some (greater k (last_of es))
unfolding IsStrictlySortedBy
last-put k v [] s = refl
last-put k v (e ∷ es) s = put_by k v e es s (last-put k v es s.1) (key_cmp k e.0) refl

pub multiset-greatest : (ks : List Key) → last_of (multiset_of ks) ≡ greatest_of ks
multiset-greatest [] = refl
multiset-greatest (k ∷ ks) = last-put k (had (multiset_of ks) k + 1) (multiset_of ks) (multiset-sorted ks)
    ∙ ap (λ o. Some (greater k o)) (multiset-greatest ks)

pub last-index : (es : List (Key × ℕ)) (d : Key × ℕ) (n : ℕ) → length es ≡ suc n → last_of es ≡ Some (get_or es n d).0
last-index [] d n h = absurd (omega (arith, h))
last-index (e ∷ []) d zero h = refl
last-index (e ∷ []) d (suc n) h = absurd (omega (arith, h))
last-index (e ∷ f ∷ es) d zero h = absurd (omega (arith, h))
last-index (e ∷ f ∷ es) d (suc n) h = last-index (f ∷ es) d n (omega (arith, h))

pub last-got : (es : List (Key × ℕ)) (e : Key × ℕ) → slice_get es (length es - 1) ≡ Some e → last_of es ≡ Some e.0
last-got es e g =
    let within = slice_get_within es (length es - 1) e g in
    last-index es e (length es - 1) (omega (arith, within)) ∙ ap (λ (x : Key × ℕ). Some x.0)
    (get_or_from_slice_get es (length es - 1) e e g)

-- what is read of a tally
sum_none : (ds : List Datum) → length ds ≡ 0 → null ≡ sum_by ds
sum_none [] h = refl
sum_none (d ∷ ds) h = absurd (omega (arith, h))

sum_some : (ds : List Datum) → 0 < length ds → whole (total ds) ≡ sum_by ds
sum_some [] h = absurd (omega (arith, h))
sum_some (d ∷ ds) h = refl

module _ (t : Total) (cells : List Datum) (k : KeepsTotal t cells) where
  pub kept-count : whole (pos t.filled) ≡ count_of (filled cells)
  kept-count = ap (λ n. whole (pos n)) (k.filled_is ∙ count-filled cells)

  pub kept-none : t.filled ≡ 0 → null ≡ sum_by (filled cells)
  kept-none h = sum_none (filled cells) (sym (k.filled_is ∙ count-filled cells) ∙ h)

  pub kept-some : 0 < t.filled → FitsSigned w128 (total (filled cells)) → whole t.total ≡ sum_by (filled cells)
  kept-some h f =
      ap whole (k.total_is ∙ int_wrap_fits w128 (total (filled cells)) f)
      ∙ sum_some (filled cells) (subst (λ n. 0 < n) (k.filled_is ∙ count-filled cells) h)

module _ (es : List (Key × ℕ)) (cells : List Datum) (k : KeepsValues es cells) (a : AllByRecursion IsKeyCell cells) where
  pub kept-least : datum_in (first_of es) ≡ first_in direction.Ascending (filled cells)
  kept-least = ap datum_in (ap first_of (kept-values es cells k) ∙ multiset-least (keys_in cells)) ∙ least-is cells a

  pub kept-greatest : datum_in (last_of es) ≡ first_in direction.Descending (filled cells)
  kept-greatest =
      ap datum_in (ap last_of (kept-values es cells k) ∙ multiset-greatest (keys_in cells)) ∙ greatest-is cells a
