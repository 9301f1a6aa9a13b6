-- Ascending keys with the same members are the same.
use Rattle.std.proofs.Common.{◌≡◌, refl, ap, sym, ◌∙◌, subst, true≢false}
use Rattle.std.specs.Prelude.{List, [], ◌∷◌, true, false}
use Rattle.std.specs.declared.cmp.Ordering.{Ordering}
use Rattle.std.specs.declared.cmp.Ordering.TheVariants.{Less, Equal, Greater}
use Rattle.std.specs.Ordering.{ordering_reverse}
use Rattle.std.specs.Cmp.{IsTotalOrder, tied_itself}
use Rattle.std.specs.List.{AllByRecursion, list_any}
use Rattle.std.specs.List.Sorted.{IsStrictlySortedBy}
use Rattle.std.specs.BTreeMap.{is_at}
use Rattle.std.proofs.lemmas.Map.Lookups.{CmpEqualImpliesEq}
use Rattle.view_lang.specs.SortedEntries.{all_below}

module _ {K : Type 0} {R : K → K → Ordering} (o : IsTotalOrder R) where
  none-all : (p : K) (ks : List K) → AllByRecursion (λ y. R p y ≡ Less) ks → list_any (is_at (R p)) ks ≡ false
  none-all p [] a = refl
  none-all p (k ∷ ks) a = rw a.0 (none-all p ks a.1)

  none-below : (p k : K) (ks : List K) → IsStrictlySortedBy R (k ∷ ks) → R p k ≡ Less
      → list_any (is_at (R p)) (k ∷ ks) ≡ false
  unfolding IsStrictlySortedBy
  none-below p k ks s q = none-all p (k ∷ ks) (q, all_below o p k ks q s.0)

  none-past : (p k : K) (ks : List K) → IsStrictlySortedBy R (k ∷ ks) → R p k ≡ Equal
      → list_any (is_at (R p)) ks ≡ false
  unfolding IsStrictlySortedBy
  none-past p k ks s q = none-all p ks (past ks s.0)
    where
      past : (ys : List K) → AllByRecursion (λ y. R k y ≡ Less) ys → AllByRecursion (λ y. R p y ≡ Less) ys
      past [] a = tt
      past (y ∷ ys) a = (o.congr p k y q ∙ a.0, past ys a.1)

  head-any : (k : K) (ks : List K) → list_any (is_at (R k)) (k ∷ ks) ≡ true
  head-any k ks = rw (tied_itself o k) refl

  module _ (exact : CmpEqualImpliesEq R) where
    abbrev AreAlike : List K → List K → Type 0
    AreAlike ks ls = (p : K) → list_any (is_at (R p)) ks ≡ list_any (is_at (R p)) ls

    tails : (k : K) (ks ls : List K) → IsStrictlySortedBy R (k ∷ ks) → IsStrictlySortedBy R (k ∷ ls)
        → AreAlike (k ∷ ks) (k ∷ ls) → (p : K) → (r : Ordering) → R p k ≡ r
        → list_any (is_at (R p)) ks ≡ list_any (is_at (R p)) ls
    tails k ks ls s t h p Less q = let e = h p in rw q at e
    tails k ks ls s t h p Equal q = none-past p k ks s q ∙ sym (none-past p k ls t q)
    tails k ks ls s t h p Greater q = let e = h p in rw q at e

    same-by : (k l : K) (ks ls : List K) → IsStrictlySortedBy R (k ∷ ks) → IsStrictlySortedBy R (l ∷ ls)
        → ((ms : List K) → IsStrictlySortedBy R ms → AreAlike ks ms → ks ≡ ms) → AreAlike (k ∷ ks) (l ∷ ls)
        → (r : Ordering) → R k l ≡ r → k ∷ ks ≡ l ∷ ls
    unfolding IsStrictlySortedBy
    same-by k l ks ls s t i h Less q = absurd (true≢false (sym (head-any k ks) ∙ h k ∙ none-below k l ls t q))
    same-by k l ks ls s t i h Greater q =
        let below : R l k ≡ Less = o.antisymm l k ∙ ap ordering_reverse q in
        absurd (true≢false (sym (head-any l ls) ∙ sym (h l) ∙ none-below l k ks s below))
    same-by k l ks ls s t i h Equal q =
        let e : l ≡ k = sym (exact k l q) in
        let P : K → Type 0 = λ m. IsStrictlySortedBy R (m ∷ ls) in
        let Q : K → Type 0 = λ m. AreAlike (k ∷ ks) (m ∷ ls) in
        let g = subst Q e h in
        let rest = i ls t.1 (λ p. tails k ks ls s (subst P e t) g p (R p k) refl) in
        ap (λ (ms : List K). k ∷ ms) rest ∙ ap (λ (m : K). m ∷ ls) (sym e)

    pub same-keys : (ks ls : List K) → IsStrictlySortedBy R ks → IsStrictlySortedBy R ls → AreAlike ks ls → ks ≡ ls
    unfolding IsStrictlySortedBy
    same-keys [] [] s t h = refl
    same-keys [] (l ∷ ls) s t h = absurd (true≢false (sym (head-any l ls) ∙ sym (h l)))
    same-keys (k ∷ ks) [] s t h = absurd (true≢false (sym (head-any k ks) ∙ h k))
    same-keys (k ∷ ks) (l ∷ ls) s t h = same-by k l ks ls s t (λ ms u. same-keys ks ms s.1 u) h (R k l) refl
