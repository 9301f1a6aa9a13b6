-- How often a multiset has a value after one is inserted or removed.
use Rattle.std.proofs.Common.{◌≡◌, refl, ap, ◌∙◌, arith, ℕ, ◌+◌, ◌-◌, ◌≤◌, List}
use Rattle.std.specs.Prelude.{Bool, true, false, cond, Some, None, Option, nat_lt, IsSome}
use Rattle.std.specs.Option.{unwrap_or}
use Rattle.std.specs.Cmp.{eq_by_cmp_equiv, Equal-is}
use Rattle.std.specs.Ordering.{eq_by_cmp}
use Rattle.std.specs.Map.{lookup, remove_entry, set_value, keys_of}
use Rattle.std.specs.BTreeMap.{is_at}
use Rattle.std.specs.List.Sorted.{IsStrictlySortedBy}
use Rattle.std.proofs.lemmas.Map.{lookup-set_value, lookup-remove_entry}
use Rattle.std.proofs.lemmas.Map.Keys.{IsDistinct-from_sorted}
use Rattle.values.specs.declared.key.Key.{Key}
use Rattle.group_state.specs.Keys.{key_cmp, key_total}
use Rattle.group_state.specs.Counts.{had, put_times, take_times, taken}
use Rattle.view_lang.specs.SortedEntries.{lookup-insert_entry}
use Rattle.view_lang.proofs.ExactKeys.{key_exact}

pub same_at : (k q : Key) → is_at (key_cmp k) q ≡ true → k ≡ q
same_at k q h = key_exact k q ((Equal-is (key_cmp k q)).0 h)

agrees : (k x y : Key) → is_at (key_cmp k) x ≡ true → is_at (key_cmp k) y ≡ eq_by_cmp key_cmp x y
agrees k x y h = rw (same_at k x h) refl

module _ (k : Key) (m : ℕ) (es : List (Key × ℕ)) (q : Key) where
  put_by : (b : Bool) → is_at (key_cmp k) q ≡ b
      → unwrap_or (cond b (Some (had es k + m)) (lookup (is_at (key_cmp q)) es)) 0 ≡ had es q + cond b m 0
  put_by true h = ap (λ x. had es x + m) (same_at k q h)
  put_by false h = omega arith

  pub had-put : (o : Option ℕ) → o ≡ cond (is_at (key_cmp k) q) (Some (had es k + m)) (lookup (is_at (key_cmp q)) es)
      → unwrap_or o 0 ≡ had es q + cond (is_at (key_cmp k) q) m 0
  had-put o h = ap (λ x. unwrap_or x 0) h ∙ put_by (is_at (key_cmp k) q) refl

  pub had-put_times : had (put_times k m es) q ≡ had es q + cond (is_at (key_cmp k) q) m 0
  had-put_times =
      had-put (lookup (is_at (key_cmp q)) (put_times k m es)) (lookup-insert_entry key_total k q (had es k + m) es)

  take_by : (o : Option ℕ) → unwrap_or o 0 ≡ had es k - m → (b : Bool) → is_at (key_cmp k) q ≡ b
      → unwrap_or (cond b o (lookup (is_at (key_cmp q)) es)) 0 ≡ had es q - cond b m 0
  take_by o p true h = p ∙ ap (λ x. had es x - m) (same_at k q h)
  take_by o p false h = omega arith

  none_by : lookup (is_at (key_cmp k)) es ≡ None → (b : Bool) → is_at (key_cmp k) q ≡ b
      → had es q ≡ had es q - cond b m 0
  none_by l true h =
      let same = ap (had es) (same_at k q h) in
      let z = ap (λ x. unwrap_or x 0) l in
      omega (arith, same, z)
  none_by l false h = omega arith

  module _ (s : IsStrictlySortedBy key_cmp (keys_of es)) where
    some_by : (n : ℕ) → lookup (is_at (key_cmp k)) es ≡ Some n → (b : Bool) → nat_lt m n ≡ b
        → had (cond b (set_value (is_at (key_cmp k)) es (n - m)) (remove_entry (is_at (key_cmp k)) es)) q
        ≡ had es q - cond (is_at (key_cmp k) q) m 0
    some_by n l true b =
        let found : IsSome (lookup (is_at (key_cmp k)) es) = rw l refl in
        let h = ap (λ x. unwrap_or x 0) l in
        let z : n - m ≡ had es k - m = omega (arith, h) in
        ap (λ x. unwrap_or x 0)
        (lookup-set_value (eq_by_cmp_equiv key_total) (is_at (key_cmp k)) (agrees k) q (n - m) es found)
        ∙ take_by (Some (n - m)) z (is_at (key_cmp k) q) refl
    some_by n l false b =
        let few : n ≤ m = grind arith in
        let h = ap (λ x. unwrap_or x 0) l in
        let z : 0 ≡ had es k - m = omega (arith, h, few) in
        ap (λ x. unwrap_or x 0)
        (lookup-remove_entry (eq_by_cmp_equiv key_total) (is_at (key_cmp k)) (agrees k) q es
        (IsDistinct-from_sorted key_cmp (keys_of es) s))
        ∙ take_by None z (is_at (key_cmp k) q) refl

    take_of : (o : Option ℕ) → lookup (is_at (key_cmp k)) es ≡ o
        → had (taken k m es o) q ≡ had es q - cond (is_at (key_cmp k) q) m 0
    take_of None l = none_by l (is_at (key_cmp k) q) refl
    take_of (Some n) l = some_by n l (nat_lt m n) refl

    pub had-take : had (take_times k m es) q ≡ had es q - cond (is_at (key_cmp k) q) m 0
    had-take = take_of (lookup (is_at (key_cmp k)) es) refl
