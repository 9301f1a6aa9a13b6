-- Values inserted into a few ascending ones, and removed from them.
use Rattle.std.proofs.Common.{◌≡◌, refl, ap, sym, ◌∙◌, subst, arith, ℕ, zero, suc, ◌+◌, ◌-◌, ◌<◌, ◌≤◌, length}
use Rattle.std.specs.Prelude.{Bool, true, false, cond, List, [], ◌∷◌, ◌++◌, Option, Some, None, drop, get_or, nat_lt, set, slice_get, take}
use Rattle.std.specs.List.{All, AllByRecursion, insert, remove}
use Rattle.std.specs.List.Sorted.{IsStrictlySortedBy}
use Rattle.std.specs.Map.{keys_of, lookup, remove_entry, set_value, values_of}
use Rattle.std.proofs.lemmas.List.{take_all}
use Rattle.std.proofs.lemmas.Option.{slice_get_past, slice_get_read}
use Rattle.std.specs.BTreeMap.{insert_entry, is_at}
use Rattle.std.specs.Option.{unwrap_or}
use Rattle.std.specs.Ordering.{is_eq, match_ordering}
use Rattle.std.specs.declared.cmp.Ordering.{Ordering}
use Rattle.std.specs.declared.cmp.Ordering.TheVariants.{Less, Equal, Greater}
use Rattle.std.proofs.lemmas.Map.{keys-set_value}
use Rattle.view_lang.proofs.LastEntries.{entry-next}
use Rattle.view_lang.specs.SortedEntries.{all_below, sorted-insert_entry, sorted-remove_entry}
use Rattle.values.specs.declared.key.Key.{Key}
use Rattle.group_state.specs.Counts.{had, put_times, take_times, taken}
use Rattle.group_state.specs.FewValues.{ArePast, IsBefore, IsThere}
use Rattle.group_state.specs.Keys.{key_cmp, key_total}
use Rattle.group_state.proofs.Present.{present-put, present-take}

abbrev pub Entries : Type 0
Entries = List (Key × ℕ)

module _ (k : Key) where
  -- past the lesser ones

  past_insert : (v n : ℕ) (es : Entries) → ArePast k (take n es)
      → insert_entry key_cmp es k v ≡ take n es ++ insert_entry key_cmp (drop n es) k v
  past_insert v zero [] past = refl
  past_insert v zero (e ∷ es) past = refl
  past_insert v (suc n) [] past = refl
  past_insert v (suc n) (e ∷ es) past =
      ap (λ (r : Ordering). match_ordering r ((k, v) ∷ e ∷ es) ((e.0, v) ∷ es) (e ∷ insert_entry key_cmp es k v)) past.0
      ∙ ap (λ (xs : Entries). e ∷ xs) (past_insert v n es past.1)

  past_lookup : (n : ℕ) (es : Entries) → ArePast k (take n es)
      → lookup (is_at (key_cmp k)) es ≡ lookup (is_at (key_cmp k)) (drop n es)
  past_lookup zero [] past = refl
  past_lookup zero (e ∷ es) past = refl
  past_lookup (suc n) [] past = refl
  past_lookup (suc n) (e ∷ es) past =
      ap (λ (r : Ordering). cond (is_eq r) (Some e.1) (lookup (is_at (key_cmp k)) es)) past.0 ∙ past_lookup n es past.1

  past_set : (v n : ℕ) (es : Entries) → ArePast k (take n es)
      → set_value (is_at (key_cmp k)) es v ≡ take n es ++ set_value (is_at (key_cmp k)) (drop n es) v
  past_set v zero [] past = refl
  past_set v zero (e ∷ es) past = refl
  past_set v (suc n) [] past = refl
  past_set v (suc n) (e ∷ es) past =
      ap (λ (r : Ordering). cond (is_eq r) ((e.0, v) ∷ es) (e ∷ set_value (is_at (key_cmp k)) es v)) past.0
      ∙ ap (λ (xs : Entries). e ∷ xs) (past_set v n es past.1)

  past_remove : (n : ℕ) (es : Entries) → ArePast k (take n es)
      → remove_entry (is_at (key_cmp k)) es ≡ take n es ++ remove_entry (is_at (key_cmp k)) (drop n es)
  past_remove zero [] past = refl
  past_remove zero (e ∷ es) past = refl
  past_remove (suc n) [] past = refl
  past_remove (suc n) (e ∷ es) past =
      ap (λ (r : Ordering). cond (is_eq r) es (e ∷ remove_entry (is_at (key_cmp k)) es)) past.0
      ∙ ap (λ (xs : Entries). e ∷ xs) (past_remove n es past.1)

  -- the value at a place

  pub past_more : (n : ℕ) (es : Entries) (e : Key × ℕ) → slice_get es n ≡ Some e → ArePast k (take n es)
      → key_cmp k e.0 ≡ Greater → ArePast k (take (n + 1) es)
  past_more n es e at past above =
      let next : suc n ≡ n + 1 = omega arith in
      subst (λ (m : ℕ). ArePast k (take m es)) next (more n es at past)
    where
      more : (n : ℕ) (es : Entries) → slice_get es n ≡ Some e → ArePast k (take n es) → ArePast k (take (suc n) es)
      more n [] at past = absurd (cc)
      more zero (x ∷ xs) at past = let h : x ≡ e = cc in (ap (λ (y : Key × ℕ). key_cmp k y.0) h ∙ above, tt)
      more (suc n) (x ∷ xs) at past = (past.0, more n xs at past.1)

  pub rest_at : (n : ℕ) (es : Entries) (e : Key × ℕ) → slice_get es n ≡ Some e → drop n es ≡ e ∷ drop (suc n) es
  rest_at n [] e at = absurd (cc)
  rest_at zero (x ∷ xs) e at = let h : x ≡ e = cc in ap (λ (y : Key × ℕ). y ∷ xs) h
  rest_at (suc n) (x ∷ xs) e at = rest_at n xs e at

  set_at : (n : ℕ) (es : Entries) (e x : Key × ℕ) → slice_get es n ≡ Some e
      → set es n x ≡ take n es ++ x ∷ drop (suc n) es
  set_at n [] e x at = absurd (cc)
  set_at zero (y ∷ ys) e x at = refl
  set_at (suc n) (y ∷ ys) e x at = ap (λ (xs : Entries). y ∷ xs) (set_at n ys e x at)

  module _ (n : ℕ) (es : Entries) (e : Key × ℕ) (there : IsThere k n es) (at : slice_get es n ≡ Some e) where
    found : lookup (is_at (key_cmp k)) es ≡ Some e.1
    found =
        past_lookup n es there.past ∙ ap (lookup (is_at (key_cmp k))) (rest_at n es e at)
        ∙ ap (λ (r : Ordering). cond (is_eq r) (Some e.1) (lookup (is_at (key_cmp k)) (drop (suc n) es)))
        (there.at e at)

    pub had_there : had es k ≡ e.1
    had_there = ap (λ (o : Option ℕ). unwrap_or o 0) found

    module _ (m : ℕ) where
      pub put_there : put_times k m es ≡ set es n (e.0, e.1 + m)
      put_there =
          past_insert (had es k + m) n es there.past
          ∙ ap (λ (xs : Entries). take n es ++ insert_entry key_cmp xs k (had es k + m)) (rest_at n es e at)
          ∙ ap (λ (r : Ordering). take n es ++ match_ordering r ((k, had es k + m) ∷ e ∷ drop (suc n) es)
          ((e.0, had es k + m) ∷ drop (suc n) es) (e ∷ insert_entry key_cmp (drop (suc n) es) k (had es k + m)))
          (there.at e at)
          ∙ ap (λ (h : ℕ). take n es ++ (e.0, h + m) ∷ drop (suc n) es) had_there
          ∙ sym (set_at n es e (e.0, e.1 + m) at)

      taken_some : take_times k m es ≡ taken k m es (Some e.1)
      taken_some = ap (taken k m es) found

      pub take_there : nat_lt m e.1 ≡ true → take_times k m es ≡ set es n (e.0, e.1 - m)
      take_there many =
          taken_some
          ∙ ap (λ (b : Bool). cond b (set_value (is_at (key_cmp k)) es (e.1 - m)) (remove_entry (is_at (key_cmp k)) es)) many
          ∙ past_set (e.1 - m) n es there.past
          ∙ ap (λ (xs : Entries). take n es ++ set_value (is_at (key_cmp k)) xs (e.1 - m)) (rest_at n es e at)
          ∙ ap (λ (r : Ordering). take n es ++ cond (is_eq r) ((e.0, e.1 - m) ∷ drop (suc n) es)
          (e ∷ set_value (is_at (key_cmp k)) (drop (suc n) es) (e.1 - m))) (there.at e at)
          ∙ sym (set_at n es e (e.0, e.1 - m) at)

      pub take_last : nat_lt m e.1 ≡ false → take_times k m es ≡ remove es n
      take_last few =
          taken_some
          ∙ ap (λ (b : Bool). cond b (set_value (is_at (key_cmp k)) es (e.1 - m)) (remove_entry (is_at (key_cmp k)) es)) few
          ∙ past_remove n es there.past
          ∙ ap (λ (xs : Entries). take n es ++ remove_entry (is_at (key_cmp k)) xs) (rest_at n es e at)
          ∙ ap (λ (r : Ordering). take n es ++ cond (is_eq r) (drop (suc n) es)
          (e ∷ remove_entry (is_at (key_cmp k)) (drop (suc n) es))) (there.at e at)

  -- a value that isn't there

  none_above : (es : Entries) → AllByRecursion (λ y. key_cmp k y ≡ Less) (keys_of es)
      → lookup (is_at (key_cmp k)) es ≡ None
  none_above [] above = refl
  none_above (e ∷ es) above =
      ap (λ (r : Ordering). cond (is_eq r) (Some e.1) (lookup (is_at (key_cmp k)) es)) above.0 ∙ none_above es above.1

  dropped_sorted : (n : ℕ) (es : Entries) → IsStrictlySortedBy key_cmp (keys_of es)
      → IsStrictlySortedBy key_cmp (keys_of (drop n es))
  unfolding IsStrictlySortedBy
  dropped_sorted zero [] s = s
  dropped_sorted zero (e ∷ es) s = s
  dropped_sorted (suc n) [] s = s
  dropped_sorted (suc n) (e ∷ es) s = dropped_sorted n es s.1

  abbrev IsLessNext : Entries → Type 0
  IsLessNext [] = Unit {0}
  IsLessNext (e ∷ es) = key_cmp k e.0 ≡ Less

  less_next : (n : ℕ) (es : Entries) → ((e : Key × ℕ) → slice_get es n ≡ Some e → key_cmp k e.0 ≡ Less)
      → IsLessNext (drop n es)
  less_next zero [] next = tt
  less_next zero (e ∷ es) next = next e refl
  less_next (suc n) [] next = tt
  less_next (suc n) (e ∷ es) next = less_next n es next

  none_next : (es : Entries) → IsStrictlySortedBy key_cmp (keys_of es) → IsLessNext es
      → lookup (is_at (key_cmp k)) es ≡ None
  unfolding IsStrictlySortedBy
  none_next [] s less = refl
  none_next (e ∷ es) s less = none_above (e ∷ es) (less, all_below key_total k e.0 (keys_of es) less s.0)

  put_next : (v : ℕ) (es : Entries) → IsLessNext es → insert_entry key_cmp es k v ≡ (k, v) ∷ es
  put_next v [] less = refl
  put_next v (e ∷ es) less =
      ap (λ (r : Ordering). match_ordering r ((k, v) ∷ e ∷ es) ((e.0, v) ∷ es) (e ∷ insert_entry key_cmp es k v)) less

  module _ (n : ℕ) (es : Entries) (before : IsBefore k n es) (s : IsStrictlySortedBy key_cmp (keys_of es)) where
    absent : lookup (is_at (key_cmp k)) es ≡ None
    absent =
        past_lookup n es before.past
        ∙ none_next (drop n es) (dropped_sorted n es s) (less_next n es before.next)

    pub put_before : (m : ℕ) → put_times k m es ≡ insert es n (k, m)
    put_before m =
        let none_more : 0 + m ≡ m = omega arith in
        ap (λ (o : Option ℕ). insert_entry key_cmp es k (unwrap_or o 0 + m)) absent
        ∙ ap (insert_entry key_cmp es k) none_more
        ∙ past_insert m n es before.past
        ∙ ap (λ (xs : Entries). take n es ++ xs) (put_next m (drop n es) (less_next n es before.next))

    pub take_absent : (m : ℕ) → take_times k m es ≡ es
    take_absent m = ap (taken k m es) absent

  -- They are in ascending order as before.

  pub sorted_put : (m : ℕ) (es : Entries) → IsStrictlySortedBy key_cmp (keys_of es)
      → IsStrictlySortedBy key_cmp (keys_of (put_times k m es))
  sorted_put m es s = sorted-insert_entry key_total k (had es k + m) es s

  sorted_taken : (m : ℕ) (es : Entries) (o : Option ℕ) → IsStrictlySortedBy key_cmp (keys_of es)
      → IsStrictlySortedBy key_cmp (keys_of (taken k m es o))
  sorted_taken m es None s = s
  sorted_taken m es (Some n) s =
      elim (nat_lt m n) as (λ b. IsStrictlySortedBy key_cmp (keys_of (cond b (set_value (is_at (key_cmp k)) es (n - m))
      (remove_entry (is_at (key_cmp k)) es)))) [
        | true ↦ subst (IsStrictlySortedBy key_cmp) (sym (keys-set_value (is_at (key_cmp k)) es (n - m))) s
        | false ↦ sorted-remove_entry key_total (is_at (key_cmp k)) es s
      ]

  pub sorted_take : (m : ℕ) (es : Entries) → IsStrictlySortedBy key_cmp (keys_of es)
      → IsStrictlySortedBy key_cmp (keys_of (take_times k m es))
  sorted_take m es s = sorted_taken m es (lookup (is_at (key_cmp k)) es) s

-- in the form in which they are stored

abbrev pub AreFew : Entries → Type 0
AreFew es = IsStrictlySortedBy key_cmp (keys_of es) × All (λ n. 0 < n) (values_of es)

pub no_values : AreFew []
unfolding IsStrictlySortedBy
no_values = (tt, λ k d h. absurd (omega arith))

pub few_put : (k : Key) (m : ℕ) (es : Entries) → 0 < m → AreFew es → AreFew (put_times k m es)
few_put k m es some f = (sorted_put k m es f.0, present-put k m es f.1 some)

pub few_take : (k : Key) (m : ℕ) (es : Entries) → AreFew es → AreFew (take_times k m es)
few_take k m es f = (sorted_take k m es f.0, present-take k m es f.1)

module _ (k : Key) (m n : ℕ) (es now : Entries) (e : Key × ℕ) (view : es ≡ now) (there : IsThere k n now)
    (is : e ≡ get_or es n e) where
  here : IsThere k n es
  here = subst (IsThere k n) (sym view) there

  at : slice_get es n ≡ Some e
  at = slice_get_read es (length es) n e refl here.within is

  pub had_here : had now k ≡ e.1
  had_here = ap (λ (xs : Entries). had xs k) (sym view) ∙ had_there k n es e here at

  pub put_here : set es n (e.0, e.1 + m) ≡ put_times k m now
  put_here = sym (put_there k n es e here at m) ∙ ap (put_times k m) view

  pub few_raised : 0 < m → AreFew es → AreFew (set es n (e.0, e.1 + m))
  few_raised some f = subst AreFew (put_there k n es e here at m) (few_put k m es some f)

  module _ (f : Key × ℕ) (same : f ≡ get_or es n f) where
    alike : f ≡ e
    alike = let one : Some f ≡ Some e = sym (slice_get_read es (length es) n f refl here.within same) ∙ at in cc

    lowered : nat_lt m e.1 ≡ true → take_times k m es ≡ set es n (f.0, e.1 - m)
    lowered many =
        take_there k n es e here at m many ∙ ap (λ (x : Key × ℕ). set es n (x.0, e.1 - m)) (sym alike)

    pub take_here : nat_lt m e.1 ≡ true → set es n (f.0, e.1 - m) ≡ take_times k m now
    take_here many = sym (lowered many) ∙ ap (take_times k m) view

    pub few_lowered : nat_lt m e.1 ≡ true → AreFew es → AreFew (set es n (f.0, e.1 - m))
    few_lowered many few = subst AreFew (lowered many) (few_take k m es few)

  pub last_here : nat_lt m e.1 ≡ false → remove es n ≡ take_times k m now
  last_here few = sym (take_last k n es e here at m few) ∙ ap (take_times k m) view

  pub few_removed : nat_lt m e.1 ≡ false → AreFew es → AreFew (remove es n)
  few_removed last few = subst AreFew (take_last k n es e here at m last) (few_take k m es few)

-- places

pub there_at : (k : Key) (n : ℕ) (es now : Entries) (e : Key × ℕ) → es ≡ now → n < length es → e ≡ get_or es n e
    → ArePast k (take n now) → key_cmp k e.0 ≡ Equal → IsThere k n now
there_at k n es now e view below is past same =
    let at : slice_get es n ≡ Some e = slice_get_read es (length es) n e refl below is in
    subst (IsThere k n) view (record {
      within = below;
      past = subst (λ (xs : Entries). ArePast k (take n xs)) (sym view) past;
      at = λ f got. let one : Some e ≡ Some f = sym at ∙ got in let x : e ≡ f = cc in
          ap (λ (y : Key × ℕ). key_cmp k y.0) (sym x) ∙ same;
    })

pub before_at : (k : Key) (n : ℕ) (es now : Entries) (e : Key × ℕ) → es ≡ now → n < length es → e ≡ get_or es n e
    → ArePast k (take n now) → key_cmp k e.0 ≡ Less → IsBefore k n now
before_at k n es now e view below is past less =
    let at : slice_get es n ≡ Some e = slice_get_read es (length es) n e refl below is in
    subst (IsBefore k n) view (record {
      within = omega (arith, below);
      past = subst (λ (xs : Entries). ArePast k (take n xs)) (sym view) past;
      next = λ f got. let one : Some e ≡ Some f = sym at ∙ got in let x : e ≡ f = cc in
          ap (λ (y : Key × ℕ). key_cmp k y.0) (sym x) ∙ less;
    })

pub past_at : (k : Key) (n : ℕ) (es now : Entries) (e : Key × ℕ) → es ≡ now → n < length es → e ≡ get_or es n e
    → ArePast k (take n now) → key_cmp k e.0 ≡ Greater → ArePast k (take (n + 1) now)
past_at k n es now e view below is past above =
    past_more k n now e (ap (λ (xs : Entries). slice_get xs n) (sym view)
    ∙ slice_get_read es (length es) n e refl below is) past above

-- after all
pub before_end : (k : Key) (n : ℕ) (es now : Entries) → es ≡ now → length es ≤ n → ArePast k (take n now)
    → IsBefore k (length es) now
before_end k n es now view through past =
    let many : length es ≡ length now = ap length view in record {
      within = omega (arith, many);
      past = subst (ArePast k) (take_all n now (omega (arith, many, through))
          ∙ sym (take_all (length es) now (omega (arith, many)))) past;
      next = λ f got.
          let none : slice_get now (length es) ≡ None = slice_get_past now (length es) (omega (arith, many)) in
          absurd (cc);
    }

-- inserted at its place
module _ (k : Key) (m n : ℕ) (es mid now new : Entries) (view : es ≡ now) (kept : mid ≡ es) (before : IsBefore k n now)
    (few : AreFew es) (put : new ≡ insert mid n (k, m)) where
  pub inserted : new ≡ put_times k m now
  inserted =
      put ∙ ap (λ (xs : Entries). insert xs n (k, m)) (kept ∙ view)
      ∙ sym (put_before k n now before (subst (λ (xs : Entries). IsStrictlySortedBy key_cmp (keys_of xs)) view few.0) m)

  pub few_inserted : 0 < m → AreFew new
  few_inserted some = subst AreFew (ap (put_times k m) view ∙ sym inserted) (few_put k m es some few)

pub nothing_taken : (k : Key) (m n : ℕ) (es : Entries) → IsBefore k n es → IsStrictlySortedBy key_cmp (keys_of es)
    → es ≡ take_times k m es
nothing_taken k m n es before s = sym (take_absent k n es before s m)

-- inserted into a tree, one by one

pub count_at : (es : Entries) (n : ℕ) (e : Key × ℕ) → All (λ m. 0 < m) (values_of es) → n < length es
    → e ≡ get_or es n e → 0 < e.1
count_at [] n e all below is = absurd (omega (arith, below))
count_at (x ∷ xs) zero e all below is =
    subst (λ (y : Key × ℕ). 0 < y.1) (sym is) (all 0 0 (omega arith))
count_at (x ∷ xs) (suc n) e all below is =
    count_at xs n e (λ k d h. all (suc k) d (omega (arith, h))) (omega (arith, below)) is

pub many_next : (es many now : Entries) (n : ℕ) (e : Key × ℕ) → n < length es → e ≡ get_or es n e
    → many ++ drop n es ≡ es → IsStrictlySortedBy key_cmp (keys_of es) → now ≡ insert_entry key_cmp many e.0 e.1
    → now ++ drop (n + 1) es ≡ es
many_next es many now n e below is so_far s put =
    let at : slice_get es n ≡ Some e = slice_get_read es (length es) n e refl below is in
    let next : suc n ≡ n + 1 = omega arith in
    let rest : drop n es ≡ e ∷ drop (n + 1) es =
    rest_at e.0 n es e at ∙ ap (λ (m : ℕ). e ∷ drop m es) next in
    ap (λ (xs : Entries). xs ++ drop (n + 1) es) put
    ∙ entry-next key_cmp key_total many e.0 e.1 (drop (n + 1) es) es
    (ap (λ (xs : Entries). many ++ xs) (sym rest) ∙ so_far) s
