-- Sums over multisets.
use Rattle.std.proofs.Common.{◌≡◌, refl, arith, ℕ, ◌+◌, List, [], ◌∷◌, add-one}
use Rattle.std.specs.Prelude.{ℤ, ◌+ℤ◌, cond, Some, None}
use Rattle.std.specs.Option.{unwrap_or}
use Rattle.std.specs.declared.cmp.Ordering.{Ordering}
use Rattle.std.specs.declared.cmp.Ordering.TheVariants.{Less, Equal, Greater}
use Rattle.std.specs.Ordering.{is_eq, match_ordering}
use Rattle.std.specs.Map.{lookup, keys_of}
use Rattle.std.specs.BTreeMap.{insert_entry, is_at}
use Rattle.std.specs.List.Sorted.{IsStrictlySortedBy}
use Rattle.std.proofs.lemmas.Int.{ints}
use Rattle.std.proofs.lemmas.Map.{lookup-none}
use Rattle.std.proofs.lemmas.Map.Keys.{sorted_tail}
use Rattle.std.proofs.lemmas.Map.Entries.{none_below_head}
use Rattle.values.specs.declared.key.Key.{Key}
use Rattle.group_state.specs.Keys.{key_cmp, key_total}
use Rattle.group_state.specs.Counts.{had, number_in, times, weighted}
use Rattle.view_lang.proofs.ExactKeys.{key_exact}

times-more : (n : ℕ) (x : ℤ) → times (n + 1) x ≡ x +ℤ times n x
times-more n x = rw add-one refl

module _ (k : Key) where
  put_by : (e : Key × ℕ) (es : List (Key × ℕ)) → IsStrictlySortedBy key_cmp (keys_of (e ∷ es))
      → weighted (insert_entry key_cmp es k (had es k + 1)) ≡ weighted es +ℤ number_in k → (r : Ordering)
      → key_cmp k e.0 ≡ r → (n : ℕ) → n ≡ unwrap_or (cond (is_eq r) (Some e.1) (lookup (is_at (key_cmp k)) es)) 0
      + 1
      → weighted (match_ordering r ((k, n) ∷ e ∷ es) ((e.0, n) ∷ es) (e ∷ insert_entry key_cmp es k n))
      ≡ weighted (e ∷ es) +ℤ number_in k
  put_by e es s h Less q n m =
      let none : lookup (is_at (key_cmp k)) (e ∷ es) ≡ None = lookup-none (is_at (key_cmp k)) (e ∷ es)
      (none_below_head key_total k e es s q) in
      let none-here = rw q at none in
      let one : n ≡ 1 = rw none-here at m in
      rw one (omega (arith, ints))
  put_by e es s h Equal q n m =
      rw (m, ← (key_exact k e.0 q)) (let t = times-more e.1 (number_in k) in omega (arith, ints, t))
  put_by e es s h Greater q n m = rw m (omega (arith, ints, h))

  pub weighted-put : (es : List (Key × ℕ)) → IsStrictlySortedBy key_cmp (keys_of es)
      → weighted (insert_entry key_cmp es k (had es k + 1)) ≡ weighted es +ℤ number_in k
  weighted-put [] s = omega (arith, ints)
  weighted-put (e ∷ es) s = put_by e es s (weighted-put es (sorted_tail key_cmp e.0 (keys_of es) s)) (key_cmp k e.0)
      refl _ refl
