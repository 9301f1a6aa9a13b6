-- A multiset has an entry for each distinct value that it counts.
use Rattle.std.proofs.Common.{◌≡◌, refl, ap, ap₂, sym, ◌∙◌, arith, true≢false, ℕ, ◌+◌, List, [], ◌∷◌, length}
use Rattle.std.proofs.lemmas.List.{length-map}
use Rattle.std.proofs.lemmas.List.Sums.{sum_by-cons}
use Rattle.std.proofs.lemmas.Map.Entries.{sum_by-insert_entry}
use Rattle.std.specs.BTreeMap.{insert_entry, is_at}
use Rattle.std.specs.Cmp.{eq_by_cmp_equiv}
use Rattle.std.specs.List.{AllByRecursion, sum_by}
use Rattle.std.specs.Map.{lookup, values_of}
use Rattle.std.specs.Option.{option_map, unwrap_or}
use Rattle.std.specs.Ordering.{is_eq}
use Rattle.std.specs.Prelude.{Bool, true, false, cond, ◌||◌, Option, None, Some, is_some, pos}
use Rattle.values.specs.Datum.{Datum, null, truth, whole, text, bytes, list, structure}
use Rattle.values.specs.Keys.{datum_of_key}
use Rattle.values.specs.declared.key.Key.{Key}
use Rattle.values.specs.declared.key.Key.TheVariants as key
use Rattle.view_lang.specs.Contents.{is_among, same_key}
use Rattle.view_lang.specs.Folds.{count_of, distinct}
use Rattle.view_lang.specs.SortedEntries.{lookup-insert_entry}
use Rattle.view_lang.specs.Aggregates.{IsKeyCell}
use Rattle.view_lang.proofs.Distinct.{length-distinct, one_unless}
use Rattle.group_state.specs.Cells.{KeepsValues}
use Rattle.group_state.specs.Counts.{had}
use Rattle.group_state.specs.Folds.{keys_in, multiset_of}
use Rattle.group_state.specs.Keys.{key_cmp, key_total}
use Rattle.group_state.specs.Reading.{filled}
use Rattle.group_state.proofs.Folds.{kept-values, multiset-sorted}
use Rattle.group_state.proofs.KeyData.{key-data}

-- one more entry, unless the value is there

ones : (ns : List ℕ) → sum_by (λ (_ : ℕ). 1) ns ≡ length ns
ones [] = refl
ones (n ∷ ns) = omega (arith, sum_by-cons (λ (_ : ℕ). 1) n ns, ones ns)

entries : (es : List (Key × ℕ)) → sum_by (λ (_ : ℕ). 1) (values_of es) ≡ length es
entries es = ones (values_of es) ∙ length-map es (λ (e : Key × ℕ). e.1)

new_or_there : (o : Option ℕ) → one_unless (is_some o) + unwrap_or (option_map (λ (_ : ℕ). 1) o) 0 ≡ 1
new_or_there None = omega arith
new_or_there (Some n) = omega arith

length-put : (k : Key) (ks : List Key)
    → length (multiset_of (k ∷ ks))
    ≡ one_unless (is_some (lookup (is_at (key_cmp k)) (multiset_of ks))) + length (multiset_of ks)
length-put k ks =
    let es = multiset_of ks in
    let put = sum_by-insert_entry (λ (_ : ℕ). 1) key_total es k (had es k + 1) (multiset-sorted ks) in
    omega (arith, put, entries (multiset_of (k ∷ ks)), entries es, new_or_there (lookup (is_at (key_cmp k)) es))

-- what is there is among the values

asked : (q k : Key) → is_at (key_cmp k) q ≡ same_key (datum_of_key q) (datum_of_key k)
asked q k = (eq_by_cmp_equiv key_total).symm k q ∙ ap is_eq (key-data q k)

some_if : (b : Bool) (v : ℕ) (o : Option ℕ) (rest : Bool) → is_some o ≡ rest
    → is_some (cond b (Some v) o) ≡ (b || rest)
some_if true v o rest h = refl
some_if false v o rest h = h

there_step : (q k : Key) (v : ℕ) (es : List (Key × ℕ)) (rest : Bool) → is_some (lookup (is_at (key_cmp q)) es) ≡ rest
    → is_some (lookup (is_at (key_cmp q)) (insert_entry key_cmp es k v))
    ≡ (same_key (datum_of_key q) (datum_of_key k) || rest)
there_step q k v es rest h =
    ap is_some (lookup-insert_entry key_total k q v es)
    ∙ some_if (is_at (key_cmp k) q) v (lookup (is_at (key_cmp q)) es) rest h ∙ ap (λ b. b || rest) (asked q k)

there : (q : Key) (ds : List Datum) → AllByRecursion IsKeyCell ds
    → is_some (lookup (is_at (key_cmp q)) (multiset_of (keys_in ds))) ≡ is_among (datum_of_key q) (filled ds)
unfolding is_among
there q [] a = refl
there q (null ∷ ds) a = there q ds a.1
there q (truth b ∷ ds) a = there_step q (key.Bool b) _ (multiset_of (keys_in ds)) _ (there q ds a.1)
there q (whole n ∷ ds) a = there_step q (key.Int n) _ (multiset_of (keys_in ds)) _ (there q ds a.1)
there q (text t ∷ ds) a = there_step q (key.Utf8 t) _ (multiset_of (keys_in ds)) _ (there q ds a.1)
there q (bytes b ∷ ds) a = there_step q (key.Binary b) _ (multiset_of (keys_in ds)) _ (there q ds a.1)
there q (list es ∷ ds) a = absurd (true≢false (sym a.0))
there q (structure es ∷ ds) a = absurd (true≢false (sym a.0))

-- so the entries are as many as the distinct values

distinct_step : (k : Key) (ds : List Datum) → AllByRecursion IsKeyCell ds
    → length (multiset_of (keys_in ds)) ≡ length (distinct (filled ds))
    → length (multiset_of (k ∷ keys_in ds)) ≡ length (distinct (datum_of_key k ∷ filled ds))
distinct_step k ds a h =
    length-put k (keys_in ds) ∙ ap₂ (λ b n. one_unless b + n) (there k ds a) h
    ∙ sym (length-distinct (datum_of_key k) (filled ds))

distinct-is : (ds : List Datum) → AllByRecursion IsKeyCell ds
    → length (multiset_of (keys_in ds)) ≡ length (distinct (filled ds))
unfolding distinct
distinct-is [] a = refl
distinct-is (null ∷ ds) a = distinct-is ds a.1
distinct-is (truth b ∷ ds) a = distinct_step (key.Bool b) ds a.1 (distinct-is ds a.1)
distinct-is (whole n ∷ ds) a = distinct_step (key.Int n) ds a.1 (distinct-is ds a.1)
distinct-is (text t ∷ ds) a = distinct_step (key.Utf8 t) ds a.1 (distinct-is ds a.1)
distinct-is (bytes b ∷ ds) a = distinct_step (key.Binary b) ds a.1 (distinct-is ds a.1)
distinct-is (list es ∷ ds) a = absurd (true≢false (sym a.0))
distinct-is (structure es ∷ ds) a = absurd (true≢false (sym a.0))

pub kept-distinct : (es : List (Key × ℕ)) (cells : List Datum) → KeepsValues es cells
    → AllByRecursion IsKeyCell cells → whole (pos (length es)) ≡ count_of (distinct (filled cells))
kept-distinct es cells k a =
    ap (λ n. whole (pos n)) (ap length (kept-values es cells k) ∙ distinct-is cells a)
