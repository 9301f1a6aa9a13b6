-- Each key has numbers.
use Rattle.lookups.proofs.NoNumbers.{none-ascend}
use Rattle.lookups.specs.Refers.{
  HasNumbers,
  RowsByKey,
  found_at,
  is_among,
  is_bare,
  key_cmp,
  numbers_in,
  numbers_of,
  refers,
}
use Rattle.std.proofs.Common.{◌≡◌, refl, ap, sym, ◌∙◌, subst, true≢false}
use Rattle.std.proofs.lemmas.Bool.{eq-eqb}
use Rattle.std.specs.BTreeMap.{is_at}
use Rattle.std.specs.Cmp.{Equal-is}
use Rattle.std.specs.List.Sorted.{IsStrictlySortedBy}
use Rattle.std.specs.Ordering.{nat_cmp}
use Rattle.std.specs.Prelude.{◌==◌, ℕ, Bool, true, false, cond, List, [], ◌∷◌, Option, None, Some}
use Rattle.values.specs.declared.key.Key.{Key}
use Rattle.view_lang.proofs.ExactKeys.{key_exact}

module _ (old new : RowsByKey) (k : Key)
    (others : (q : Key) → is_at (key_cmp k) q ≡ false → found_at new q ≡ found_at old q)
    (P : Option (List ℕ) → Type 0) where
  elsewhere-by : (q : Key) (b : Bool) → is_at (key_cmp k) q ≡ b → P (found_at new k) → P (found_at old q)
      → P (found_at new q)
  elsewhere-by q true e here there =
      subst (λ (x : Key). P (found_at new x)) (key_exact k q ((Equal-is (key_cmp k q)).0 e)) here
  elsewhere-by q false e here there = subst P (sym (others q e)) there

  pub elsewhere : P (found_at new k) → ((q : Key) → P (found_at old q)) → (q : Key) → P (found_at new q)
  elsewhere here there q = elsewhere-by q (is_at (key_cmp k) q) refl here (there q)

-- where one key alone changes
pub still-numbered : (old new : RowsByKey) (k : Key)
    → ((q : Key) → is_at (key_cmp k) q ≡ false → found_at new q ≡ found_at old q)
    → is_bare (found_at new k) ≡ false → IsStrictlySortedBy nat_cmp (numbers_of new k) → HasNumbers old
    → HasNumbers new
still-numbered old new k others bare up held = record {
  not_bare = elsewhere old new k others (λ found. is_bare found ≡ false) bare held.not_bare;
  ascending = elsewhere old new k others (λ found. IsStrictlySortedBy nat_cmp (numbers_in found)) up held.ascending;
}

not-bare : (found : Option (List ℕ)) (n : ℕ) → is_among (numbers_in found) n ≡ true → is_bare found ≡ false
not-bare None n h = refl
not-bare (Some []) n h = absurd (true≢false (sym h))
not-bare (Some (m ∷ ms)) n h = refl

-- a key to which a number was added
pub not-bare-with : (new : RowsByKey) (k : Key) (n : ℕ) (b : Bool) → refers new k n ≡ cond (n == n) true b
    → is_bare (found_at new k) ≡ false
not-bare-with new k n b h =
    not-bare (found_at new k) n (h ∙ ap (λ (c : Bool). cond c true b) (eq-eqb n n refl))

-- no keys
pub none-numbered : (rows : RowsByKey) → rows ≡ [] → HasNumbers rows
none-numbered rows h = subst HasNumbers (sym h) (record { not_bare = λ k. refl; ascending = λ k. none-ascend [] refl })
