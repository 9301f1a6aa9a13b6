-- Numbers with their counts, as those of keys.
use Rattle.std.proofs.Common.{◌≡◌, refl, ap, sym, ◌∙◌, subst, arith, ℕ, ℤ, ◌+◌, ◌-◌, ◌<◌, ◌≤◌, ◌++◌, of_z, option_map, to_z, to_z-of_z}
use Rattle.std.specs.Prelude.{Bool, true, false, List, [], ◌∷◌, Option, None, Some, cond, length, nat_lt}
use Rattle.std.specs.BTreeMap.{insert_entry, is_at}
use Rattle.std.specs.Int.{w64}
use Rattle.std.specs.List.{All, AllByRecursion, slice_get}
use Rattle.std.specs.List.Sorted.{IsStrictlySortedBy}
use Rattle.std.specs.Map.{keys_of, lookup, remove_entry, set_value}
use Rattle.std.specs.Option.{unwrap_or}
use Rattle.std.specs.Ordering.{int_cmp, is_eq, match_ordering}
use Rattle.std.specs.declared.cmp.Ordering.{Ordering}
use Rattle.std.specs.declared.cmp.Ordering.TheVariants.{Less, Equal, Greater}
use Rattle.std.proofs.lemmas.List.Elements.{All-head, All-tail}
use Rattle.std.proofs.lemmas.List.{length-map}
use Rattle.std.proofs.lemmas.Map.{keys-set_value}
use Rattle.std.proofs.lemmas.Option.{slice_get-map}
use Rattle.std.proofs.lemmas.Map.Views.{All-keys-insert_entry, All-map-remove_entry, All-values-insert_entry}
use Rattle.values.specs.declared.key.Key.{Key}
use Rattle.values.specs.declared.key.Key.TheVariants as key
use Rattle.view_lang.proofs.LastEntries.{entry-next}
use Rattle.group_state.specs.Counts.{had, put_times, take_times, taken}
use Rattle.group_state.specs.Folds.{first_of, last_of}
use Rattle.group_state.specs.Keys.{key_cmp, key_total}
use Rattle.group_state.specs.Numbers.{AreNumbers, IsNumber, numbered, numbered_entry}
use Rattle.group_state.proofs.FewValues.{Entries}
use Rattle.group_state.proofs.FoldReadings.{last-got}
use Rattle.group_state.proofs.Had.{same_at}
use Rattle.group_state.proofs.Present.{present-take}

abbrev Numbers : Type 0
Numbers = List (ℤ × ℕ)

pub length-numbered : (es : Numbers) → length (numbered es) ≡ length es
length-numbered es = length-map es numbered_entry

module _ (n : ℤ) where
  pub insert-numbered : (c : ℕ) (es : Numbers)
      → insert_entry key_cmp (numbered es) (key.Int n) c ≡ numbered (insert_entry int_cmp es n c)
  insert-numbered c [] = refl
  insert-numbered c (e ∷ es) = by (int_cmp n e.0) (insert-numbered c es)
    where
      by : (r : Ordering)
          → insert_entry key_cmp (numbered es) (key.Int n) c ≡ numbered (insert_entry int_cmp es n c)
          → match_ordering r ((key.Int n, c) ∷ numbered (e ∷ es)) ((key.Int e.0, c) ∷ numbered es)
          (numbered_entry e ∷ insert_entry key_cmp (numbered es) (key.Int n) c)
          ≡ numbered (match_ordering r ((n, c) ∷ e ∷ es) ((e.0, c) ∷ es) (e ∷ insert_entry int_cmp es n c))
      by Less rest = refl
      by Equal rest = refl
      by Greater rest = ap (λ xs. numbered_entry e ∷ xs) rest

  pub lookup-numbered : (es : Numbers)
      → lookup (is_at (key_cmp (key.Int n))) (numbered es) ≡ lookup (is_at (int_cmp n)) es
  lookup-numbered [] = refl
  lookup-numbered (e ∷ es) = ap (cond (is_eq (int_cmp n e.0)) (Some e.1)) (lookup-numbered es)

  pub set-numbered : (c : ℕ) (es : Numbers)
      → set_value (is_at (key_cmp (key.Int n))) (numbered es) c ≡ numbered (set_value (is_at (int_cmp n)) es c)
  set-numbered c [] = refl
  set-numbered c (e ∷ es) = by (int_cmp n e.0) (set-numbered c es)
    where
      by : (r : Ordering)
          → set_value (is_at (key_cmp (key.Int n))) (numbered es) c ≡ numbered (set_value (is_at (int_cmp n)) es c)
          → cond (is_eq r) ((key.Int e.0, c) ∷ numbered es)
          (numbered_entry e ∷ set_value (is_at (key_cmp (key.Int n))) (numbered es) c)
          ≡ numbered (cond (is_eq r) ((e.0, c) ∷ es) (e ∷ set_value (is_at (int_cmp n)) es c))
      by Less rest = ap (λ xs. numbered_entry e ∷ xs) rest
      by Equal rest = refl
      by Greater rest = ap (λ xs. numbered_entry e ∷ xs) rest

  pub remove-numbered : (es : Numbers)
      → remove_entry (is_at (key_cmp (key.Int n))) (numbered es) ≡ numbered (remove_entry (is_at (int_cmp n)) es)
  remove-numbered [] = refl
  remove-numbered (e ∷ es) = by (int_cmp n e.0) (remove-numbered es)
    where
      by : (r : Ordering)
          → remove_entry (is_at (key_cmp (key.Int n))) (numbered es) ≡ numbered (remove_entry (is_at (int_cmp n)) es)
          → cond (is_eq r) (numbered es) (numbered_entry e ∷ remove_entry (is_at (key_cmp (key.Int n))) (numbered es))
          ≡ numbered (cond (is_eq r) es (e ∷ remove_entry (is_at (int_cmp n)) es))
      by Less rest = ap (λ xs. numbered_entry e ∷ xs) rest
      by Equal rest = refl
      by Greater rest = ap (λ xs. numbered_entry e ∷ xs) rest

  below-numbered : (es : Numbers) → AllByRecursion (λ y. int_cmp n y ≡ Less) (keys_of es)
      → AllByRecursion (λ y. key_cmp (key.Int n) y ≡ Less) (keys_of (numbered es))
  below-numbered [] all = all
  below-numbered (e ∷ es) all = (all.0, below-numbered es all.1)

pub sorted-numbered : (es : Numbers) → IsStrictlySortedBy int_cmp (keys_of es)
    → IsStrictlySortedBy key_cmp (keys_of (numbered es))
unfolding IsStrictlySortedBy
sorted-numbered [] s = s
sorted-numbered (e ∷ es) s = (below-numbered e.0 es s.0, sorted-numbered es s.1)

-- a number added or removed, where z is the number as it was passed

writes_same : {K X : Type 0} (test : K → Bool) (v : X) (es : List (K × X)) → lookup test es ≡ Some v
    → set_value test es v ≡ es
writes_same test v [] is = refl
writes_same {K} {X} test v (e ∷ es) is = by (test e.0) is (writes_same test v es)
  where
    by : (b : Bool) → cond b (Some e.1) (lookup test es) ≡ Some v
        → (lookup test es ≡ Some v → set_value test es v ≡ es)
        → cond b ((e.0, v) ∷ es) (e ∷ set_value test es v) ≡ e ∷ es
    by true is rest = let same : e.1 ≡ v = cc in ap (λ (x : X). (e.0, x) ∷ es) (sym same)
    by false is rest = ap (λ (xs : List (K × X)). e ∷ xs) (rest is)

module _ (z : ℤ) (m : ℕ) (es fs : Numbers) where
  pub had-numbered : had (numbered es) (key.Int z) ≡ unwrap_or (lookup (is_at (int_cmp z)) es) 0
  had-numbered = ap (λ (o : Option ℕ). unwrap_or o 0) (lookup-numbered z es)

  pub put-numbered : fs ≡ insert_entry int_cmp es z (unwrap_or (lookup (is_at (int_cmp z)) es) 0 + m)
      → numbered fs ≡ put_times (key.Int z) m (numbered es)
  put-numbered is =
      ap numbered is
      ∙ sym (insert-numbered z (unwrap_or (lookup (is_at (int_cmp z)) es) 0 + m) es)
      ∙ ap (λ (c : ℕ). insert_entry key_cmp (numbered es) (key.Int z) (c + m)) (sym had-numbered)

  pub take_none-numbered : fs ≡ es → None ≡ lookup (is_at (int_cmp z)) es
      → numbered fs ≡ take_times (key.Int z) m (numbered es)
  take_none-numbered is none =
      ap numbered is ∙ ap (taken (key.Int z) m (numbered es)) (none ∙ sym (lookup-numbered z es))

  module _ (c : ℕ) (some : Some c ≡ lookup (is_at (int_cmp z)) es) where
    found : taken (key.Int z) m (numbered es) (Some c) ≡ take_times (key.Int z) m (numbered es)
    found = ap (taken (key.Int z) m (numbered es)) (some ∙ sym (lookup-numbered z es))

    abbrev by_test : Bool → Entries
    by_test b =
        cond b (set_value (is_at (key_cmp (key.Int z))) (numbered es) (c - m))
        (remove_entry (is_at (key_cmp (key.Int z))) (numbered es))

    pub take-numbered : m < c → fs ≡ set_value (is_at (int_cmp z)) es (c - m)
        → numbered fs ≡ take_times (key.Int z) m (numbered es)
    take-numbered more is =
        let test : nat_lt m c ≡ true = grind (arith, more) in
        ap numbered is ∙ sym (set-numbered z (c - m) es) ∙ ap by_test (sym test) ∙ found

    pub take_last-numbered : (same : Numbers) → c ≤ m → same ≡ set_value (is_at (int_cmp z)) es c
        → fs ≡ remove_entry (is_at (int_cmp z)) same → numbered fs ≡ take_times (key.Int z) m (numbered es)
    take_last-numbered same few kept is =
        let test : nat_lt m c ≡ false = grind (arith, few) in
        ap numbered (is ∙ ap (remove_entry (is_at (int_cmp z))) (kept ∙ writes_same (is_at (int_cmp z)) c es (sym some)))
        ∙ sym (remove-numbered z es) ∙ ap by_test (sym test) ∙ found

-- keys that are numbers stay so

pub numbers-insert : (k : Key) (c : ℕ) (es : Entries) → IsNumber k → 0 < c → AreNumbers es
    → AreNumbers (insert_entry key_cmp es k c)
numbers-insert k c es is some are = record {
  numbers = All-keys-insert_entry key_cmp k c IsNumber es are.numbers is;
  present = All-values-insert_entry key_cmp k c (λ n. 0 < n) es are.present some;
}

pub numbers-put : (k : Key) (m : ℕ) (es : Entries) → IsNumber k → 0 < m → AreNumbers es → AreNumbers (put_times k m es)
numbers-put k m es is some are = numbers-insert k (had es k + m) es is (omega (arith, some)) are

numbers-taken : (k : Key) (m : ℕ) (es : Entries) (o : Option ℕ) → All IsNumber (keys_of es)
    → All IsNumber (keys_of (taken k m es o))
numbers-taken k m es None are = are
numbers-taken k m es (Some n) are = by (nat_lt m n)
  where
    by : (b : Bool) → All IsNumber (keys_of (cond b (set_value (is_at (key_cmp k)) es (n - m))
        (remove_entry (is_at (key_cmp k)) es)))
    by true = subst (All IsNumber) (sym (keys-set_value (is_at (key_cmp k)) es (n - m))) are
    by false = All-map-remove_entry (is_at (key_cmp k)) (λ (e : Key × ℕ). e.0) IsNumber es are

pub numbers-take : (k : Key) (m : ℕ) (es : Entries) → AreNumbers es → AreNumbers (take_times k m es)
numbers-take k m es are = record {
  numbers = numbers-taken k m es (lookup (is_at (key_cmp k)) es) are.numbers;
  present = present-take k m es are.present;
}

-- a key that is no number isn't among them
none_but_numbers : (k : Key) (es : Entries) → (IsNumber k → ⊥) → All IsNumber (keys_of es)
    → lookup (is_at (key_cmp k)) es ≡ None
none_but_numbers k [] not are = refl
none_but_numbers k (e ∷ es) not are =
    by (is_at (key_cmp k) e.0) refl (none_but_numbers k es not (All-tail IsNumber e.0 (keys_of es) are))
  where
    by : (b : Bool) → is_at (key_cmp k) e.0 ≡ b → lookup (is_at (key_cmp k)) es ≡ None
        → cond b (Some e.1) (lookup (is_at (key_cmp k)) es) ≡ None
    by true here rest =
        absurd (not (subst IsNumber (sym (same_at k e.0 here)) (All-head IsNumber e.0 (keys_of es) are)))
    by false here rest = rest

pub take-other : (k : Key) (m : ℕ) (es : Entries) → (IsNumber k → ⊥) → AreNumbers es → es ≡ take_times k m es
take-other k m es not are = sym (ap (taken k m es) (none_but_numbers k es not are.numbers))

-- the key of a number that was read or passed

pub number-kept : (k : Key) (n : ℤ) → k ≡ key.Int n → IsNumber k → key.Int (to_z w64 (of_z w64 n)) ≡ k
number-kept k n is fits = ap key.Int (to_z-of_z (subst IsNumber is fits)) ∙ sym is

pub first-numbered : (es : Numbers) (e : ℤ × ℕ) → slice_get es 0 ≡ Some e → Some (key.Int e.0) ≡ first_of (numbered es)
first-numbered [] e is = absurd (cc)
first-numbered (x ∷ xs) e is = let same : x ≡ e = cc in ap (λ (y : ℤ × ℕ). Some (key.Int y.0)) (sym same)

pub last-numbered : (es : Numbers) (e : ℤ × ℕ) → slice_get es (length es - 1) ≡ Some e
    → Some (key.Int e.0) ≡ last_of (numbered es)
last-numbered es e is =
    sym (last-got (numbered es) (numbered_entry e)
    (ap (λ n. slice_get (numbered es) (n - 1)) (length-numbered es)
    ∙ slice_get-map numbered_entry es (length es - 1) ∙ ap (option_map numbered_entry) is))

-- inserted into a tree of values, one by one
pub poured-next : (all many now left rest : Entries) (k : Key) (c : ℕ) → left ≡ (k, c) ∷ rest → many ++ left ≡ all
    → IsStrictlySortedBy key_cmp (keys_of all) → now ≡ insert_entry key_cmp many k c → now ++ rest ≡ all
poured-next all many now left rest k c is so_far s put =
    ap (λ (xs : Entries). xs ++ rest) put
    ∙ entry-next key_cmp key_total many k c rest all (ap (λ (xs : Entries). many ++ xs) (sym is) ∙ so_far) s
