-- What ascending entries have at their own keys.
use Rattle.std.proofs.Common.{◌≡◌, refl, ap, ◌∙◌}
use Rattle.std.specs.Prelude.{List, [], ◌∷◌, Bool, true, false, cond, ◌||◌, Option, Some, is_some}
use Rattle.std.specs.declared.cmp.Ordering.{Ordering}
use Rattle.std.specs.declared.cmp.Ordering.TheVariants.{Less}
use Rattle.std.specs.Ordering.{is_eq, ordering_reverse}
use Rattle.std.specs.Cmp.{IsTotalOrder, tied_itself}
use Rattle.std.specs.List.{AllByRecursion, list_any}
use Rattle.std.specs.List.Sorted.{IsStrictlySortedBy}
use Rattle.std.specs.Map.{lookup, keys_of}
use Rattle.std.specs.BTreeMap.{is_at}

module _ {K X : Type 0} (R : K → K → Ordering) (o : IsTotalOrder R) where
  abbrev pub HasOwn : List (K × X) → K × X → Type 0
  HasOwn es f = lookup (is_at (R f.0)) es ≡ Some f.1

  lift : (e : K × X) (full es : List (K × X)) → AllByRecursion (λ y. R e.0 y ≡ Less) (keys_of es)
      → AllByRecursion (HasOwn full) es → AllByRecursion (HasOwn (e ∷ full)) es
  lift e full [] b a = tt
  lift e full (f ∷ fs) b a = (
    ap (λ (r : Ordering). cond (is_eq r) (Some e.1) (lookup (is_at (R f.0)) full))
        (o.antisymm f.0 e.0 ∙ ap ordering_reverse b.0) ∙ a.0,
    lift e full fs b.1 a.1,
  )

  pub own-entries : (es : List (K × X)) → IsStrictlySortedBy R (keys_of es) → AllByRecursion (HasOwn es) es
  unfolding IsStrictlySortedBy
  own-entries [] s = tt
  own-entries (e ∷ es) s = (
    ap (λ (r : Ordering). cond (is_eq r) (Some e.1) (lookup (is_at (R e.0)) es)) (tied_itself o e.0),
    lift e es es
        s.0 (own-entries es s.1),
  )

  any_by : (b : Bool) (v : X) (l : Option X) (t : Bool) → t ≡ is_some l → (b || t) ≡ is_some (cond b (Some v) l)
  any_by true v l t h = refl
  any_by false v l t h = h

  pub any-lookup : (t : K) (es : List (K × X)) → list_any (is_at (R t)) (keys_of es) ≡ is_some (lookup (is_at (R t)) es)
  any-lookup t [] = refl
  any-lookup t (e ∷ es) = any_by (is_at (R t) e.0) e.1 (lookup (is_at (R t)) es) (list_any (is_at (R t)) (keys_of es))
      (any-lookup t es)
