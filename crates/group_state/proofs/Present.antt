-- No value has a count of 0.
use Rattle.std.proofs.Common.{◌≡◌, refl, subst, sym, arith, ℕ, ◌+◌, ◌-◌, ◌<◌, List}
use Rattle.std.specs.Prelude.{Bool, true, false, cond, Some, None, Option, nat_lt}
use Rattle.std.specs.List.{All}
use Rattle.std.specs.Map.{lookup, remove_entry, set_value, values_of}
use Rattle.std.specs.BTreeMap.{is_at}
use Rattle.std.proofs.lemmas.Map.Views.{All-map-remove_entry, All-values-insert_entry, All-values-set_value}
use Rattle.values.specs.declared.key.Key.{Key}
use Rattle.group_state.specs.Keys.{key_cmp}
use Rattle.group_state.specs.Counts.{had, put_times, take_times, taken}

module _ (k : Key) (m : ℕ) (es : List (Key × ℕ)) (p : All (λ n. 0 < n) (values_of es)) where
  pub present-put : 0 < m → All (λ n. 0 < n) (values_of (put_times k m es))
  present-put some = All-values-insert_entry key_cmp k (had es k + m) (λ n. 0 < n) es p (omega (arith, some))

  present-by : (n : ℕ) (b : Bool) → nat_lt m n ≡ b
      → All (λ x. 0 < x) (values_of (cond b (set_value (is_at (key_cmp k)) es (n - m)) (remove_entry (is_at (key_cmp k)) es)))
  present-by n true b = All-values-set_value (is_at (key_cmp k)) (λ x. 0 < x) es (n - m) p (grind arith)
  present-by n false b = All-map-remove_entry (is_at (key_cmp k)) (λ (e : Key × ℕ). e.1) (λ x. 0 < x) es p

  present-taken : (o : Option ℕ) → All (λ n. 0 < n) (values_of (taken k m es o))
  present-taken None = p
  present-taken (Some n) = present-by n (nat_lt m n) refl

  pub present-take : All (λ n. 0 < n) (values_of (take_times k m es))
  present-take = present-taken (lookup (is_at (key_cmp k)) es)

-- the same where it is known what there is after it
pub present_when : (k : Key) (m : ℕ) (es fs : List (Key × ℕ)) → 0 < m → fs ≡ put_times k m es
    → All (λ n. 0 < n) (values_of es) → All (λ n. 0 < n) (values_of fs)
present_when k m es fs some is p =
    subst (λ (xs : List (Key × ℕ)). All (λ n. 0 < n) (values_of xs)) (sym is) (present-put k m es p some)
