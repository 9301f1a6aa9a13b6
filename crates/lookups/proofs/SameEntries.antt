-- Ascending entries with the same at each key are the same.
use Rattle.std.proofs.Common.{◌≡◌, refl, ap, sym, ◌∙◌, subst}
use Rattle.std.proofs.lemmas.Map.Entries.{none_below_head, none_past_head}
use Rattle.std.proofs.lemmas.Map.Keys.{IsDistinct-from_sorted, sorted_tail}
use Rattle.std.proofs.lemmas.Map.Lookups.{CmpEqualImpliesEq}
use Rattle.std.proofs.lemmas.Map.{lookup-none}
use Rattle.std.specs.BTreeMap.{is_at}
use Rattle.std.specs.Cmp.{IsTotalOrder, eq_by_cmp_equiv, tied_itself}
use Rattle.std.specs.List.Sorted.{IsStrictlySortedBy}
use Rattle.std.specs.Map.{keys_of, lookup}
use Rattle.std.specs.Ordering.{is_eq, ordering_reverse}
use Rattle.std.specs.Prelude.{Bool, true, false, cond, List, [], ◌∷◌, Option, Some, None}
use Rattle.std.specs.declared.cmp.Ordering.TheVariants.{Equal, Greater, Less}
use Rattle.std.specs.declared.cmp.Ordering.{Ordering}

module _ {K X : Type 0} {R : K → K → Ordering} (o : IsTotalOrder R) (exact : CmpEqualImpliesEq R) where
  abbrev Up : List (K × X) → Type 0
  Up es = IsStrictlySortedBy R (keys_of es)

  abbrev at : K → List (K × X) → Option X
  at k es = lookup (is_at (R k)) es

  at-head : (e : K × X) (es : List (K × X)) → at e.0 (e ∷ es) ≡ Some e.1
  at-head e es = ap (λ (r : Ordering). cond (is_eq r) (Some e.1) (at e.0 es)) (tied_itself o e.0)

  past : (k : K) (e : K × X) (es : List (K × X)) → Up (e ∷ es) → is_at (R k) e.0 ≡ true → at k es ≡ None
  past k e es s x =
      lookup-none (is_at (R k)) es
      (none_past_head (eq_by_cmp_equiv o) k e es (IsDistinct-from_sorted R (keys_of (e ∷ es)) s) x)

  below : (e f : K × X) (es fs : List (K × X)) → Up (f ∷ fs) → ((k : K) → at k (e ∷ es) ≡ at k (f ∷ fs))
      → R e.0 f.0 ≡ Less → ⊥
  below e f es fs t h q =
      let here = at-head e es in
      let none = lookup-none (is_at (R e.0)) (f ∷ fs) (none_below_head o e.0 f fs t q) in
      let same = h e.0 in
      absurd (cc)

  same-by : (e f : K × X) (es fs : List (K × X)) → Up (e ∷ es) → Up (f ∷ fs)
      → (((k : K) → at k es ≡ at k fs) → es ≡ fs) → ((k : K) → at k (e ∷ es) ≡ at k (f ∷ fs)) → (r : Ordering)
      → R e.0 f.0 ≡ r → e ∷ es ≡ f ∷ fs
  same-by e f es fs s t i h Less q = absurd (below e f es fs t h q)
  same-by e f es fs s t i h Greater q =
      absurd (below f e fs es s (λ k. sym (h k)) (o.antisymm f.0 e.0 ∙ ap ordering_reverse q))
  same-by e f es fs s t i h Equal q =
      let k : e.0 ≡ f.0 = exact e.0 f.0 q in
      let v : Some e.1 ≡ Some f.1 =
      sym (at-head e es) ∙ h e.0 ∙ ap (λ (x : K). at x (f ∷ fs)) k ∙ at-head f fs in
      let rest = i (λ m. tails m (is_at (R m) e.0) refl k) in
      let w : e.1 ≡ f.1 = cc in
      let pair : e ≡ f = (λ j. (k j, w j)) in
      cc
    where
      tails : (m : K) (b : Bool) → is_at (R m) e.0 ≡ b → e.0 ≡ f.0 → at m es ≡ at m fs
      tails m true x k = past m e es s x ∙ sym (past m f fs t (subst (λ (y : K). is_at (R m) y ≡ true) k x))
      tails m false x k =
          let y = subst (λ (y : K). is_at (R m) y ≡ false) k x in
          sym (ap (λ b. cond b (Some e.1) (at m es)) x) ∙ h m ∙ ap (λ b. cond b (Some f.1) (at m fs)) y

  pub same-entries : (es fs : List (K × X)) → Up es → Up fs → ((k : K) → at k es ≡ at k fs) → es ≡ fs
  same-entries [] [] s t h = refl
  same-entries [] (f ∷ fs) s t h = let x = h f.0 in let y = at-head f fs in absurd (cc)
  same-entries (e ∷ es) [] s t h = let x = h e.0 in let y = at-head e es in absurd (cc)
  same-entries (e ∷ es) (f ∷ fs) s t h =
      same-by e f es fs s t
      (same-entries es fs (sorted_tail R e.0 (keys_of es) s) (sorted_tail R f.0 (keys_of fs) t)) h
      (R e.0 f.0) refl
