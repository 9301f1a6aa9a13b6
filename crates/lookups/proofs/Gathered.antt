-- Numbers that are gathered key by key.
use Rattle.lookups.proofs.Exactness.{key_total}
use Rattle.view_lang.proofs.ExactKeys.{key_exact}
use Rattle.lookups.specs.Refers.{key_cmp}
use Rattle.std.proofs.Common.{◌≡◌, ◌<◌, ◌+◌, ℕ, Bor, refl, ap, sym, ◌∙◌, take, length, get_or, true≢false}
use Rattle.std.proofs.lemmas.List.Folds.{list_any_more}
use Rattle.std.specs.BTreeMap.{is_at}
use Rattle.std.specs.Cmp.{Equal-is, eq_by_cmp_equiv}
use Rattle.std.specs.List.{list_any}
use Rattle.std.specs.Prelude.{◌||◌, Bool, true, false, cond, not, List, [], ◌∷◌}
use Rattle.values.specs.declared.key.Key.{Key}

-- whether a key is among those seen
abbrev pub was_seen : List (Bor Key) → Key → Bool
was_seen seen q = list_any (λ s. is_at (key_cmp q) s.now) seen

-- what isn't new was seen
pub seen-before : (new seen : Bool) → new ≡ not seen → new ≡ false → seen ≡ true
seen-before new true n h = refl
seen-before new false n h = absurd (true≢false (sym n ∙ h))

module _ (p : Key → Bool) (k : Key) where
  either : (a b : Bool) → ((a || b) || a) ≡ (a || b)
  either true b = refl
  either false true = refl
  either false false = refl

  past : (a b : Bool) → (b || p k) ≡ b → ((a || b) || p k) ≡ (a || b)
  past true b h = refl
  past false b h = h

  again-by : (x : Key) (xs : List Key)
      → (list_any (is_at (key_cmp k)) xs ≡ true → (list_any p xs || p k) ≡ list_any p xs)
      → (b : Bool) → is_at (key_cmp k) x ≡ b → (b || list_any (is_at (key_cmp k)) xs) ≡ true
      → ((p x || list_any p xs) || p k) ≡ (p x || list_any p xs)
  again-by x xs i true e h =
      let same : p k ≡ p x = ap p (key_exact k x ((Equal-is (key_cmp k x)).0 e)) in
      rw same (either (p x) (list_any p xs))
  again-by x xs i false e h = past (p x) (list_any p xs) (i h)

  -- A key that is there again passes no test that none before it passed.
  again : (ks : List Key) → list_any (is_at (key_cmp k)) ks ≡ true → (list_any p ks || p k) ≡ list_any p ks
  again [] h = absurd (cc)
  again (x ∷ xs) h = again-by x xs (again xs) (is_at (key_cmp k) x) refl h

module _ (keys : List Key) (i : ℕ) (k : Key) (l : i < length keys) (is : k ≡ get_or keys i k) where
  more : (p : Key → Bool) → (list_any p (take i keys) || p k) ≡ list_any p (take (i + 1) keys)
  more p = ap (λ (x : Key). list_any p (take i keys) || p x) is ∙ sym (list_any_more p keys i k l)

  pub gathered-new : (p : Key → Bool) (a b : Bool) → a ≡ list_any p (take i keys) → b ≡ (a || p k)
      → b ≡ list_any p (take (i + 1) keys)
  gathered-new p a b h e = e ∙ ap (λ (c : Bool). c || p k) h ∙ more p

  pub gathered-again : (p : Key → Bool) (a : Bool) → a ≡ list_any p (take i keys)
      → list_any (is_at (key_cmp k)) (take i keys) ≡ true → a ≡ list_any p (take (i + 1) keys)
  gathered-again p a h e = h ∙ sym (again p k (take i keys) e) ∙ more p

  pub seen-more : (q : Key) (a b : Bool) → a ≡ list_any (is_at (key_cmp q)) (take i keys)
      → b ≡ cond (is_at (key_cmp k) q) true a → b ≡ list_any (is_at (key_cmp q)) (take (i + 1) keys)
  seen-more q a b h e = gathered-new (is_at (key_cmp q)) a b h
      (e ∙ turned (is_at (key_cmp k) q) a ∙ ap (λ (c : Bool). a || c) ((eq_by_cmp_equiv key_total).symm k q))
    where
      turned : (x y : Bool) → cond x true y ≡ (y || x)
      turned true true = refl
      turned true false = refl
      turned false true = refl
      turned false false = refl
