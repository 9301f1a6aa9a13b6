-- Laws on which stored orders and multisets rest.
use Rattle.std.proofs.Common.{◌≡◌, Bool, true, false, cond, List, [], ◌∷◌, map, refl, sym, ap, ◌∙◌, true≢false}
use Rattle.std.specs.declared.cmp.Ordering.{Ordering}
use Rattle.std.specs.declared.cmp.Ordering.TheVariants.{Less, Equal, Greater}
use Rattle.std.specs.Ordering.{is_gt, on, ordering_reverse, ordering_then, then_cmp}
use Rattle.std.specs.List.{AllByRecursion}
use Rattle.std.specs.List.Sorted.{IsStrictlySortedBy}
use Rattle.std.specs.Cmp.{IsTotalOrder}
use Rattle.std.proofs.lemmas.Cmp.{upto}
use Rattle.values.specs.Datum.{Datum, null}
use Rattle.view_lang.specs.Sorted.{placed, sorted}
use Rattle.view_lang.specs.RowOrder.{cell_cmp}
use Rattle.view_lang.specs.Folds.{earlier, first_in}
use Rattle.view_lang.specs.ViewLaws.{
  first_or_null,
  FirstOfSorted,
}
use Rattle.view_lang.specs.declared.view.Direction.{Direction}
use Rattle.view_lang.specs.declared.view.Direction.TheVariants as direction
use Rattle.view_lang.proofs.StableOrder.{all-placed}

first_null : (o : Direction) (d : Datum) → earlier o d null ≡ d
first_null direction.Ascending null = refl
first_null direction.Ascending d = refl
first_null direction.Descending null = refl
first_null direction.Descending d = refl

module _ {X : Type 0} (cmp : X → X → Ordering) (all : IsTotalOrder cmp) where
  turned : (o : Ordering) → is_gt o ≡ true → ordering_reverse o ≡ Less
  turned Less e = absurd (true≢false (sym e))
  turned Equal e = absurd (true≢false (sym e))
  turned Greater e = refl

  above : (x y z : X) → is_gt (cmp x z) ≡ true → is_gt (cmp y z) ≡ false → is_gt (cmp x y) ≡ true
  above x y z h k = go (is_gt (cmp x y)) refl
    where
      go : (b : Bool) → is_gt (cmp x y) ≡ b → is_gt (cmp x y) ≡ true
      go true e = e
      go false e = absurd (true≢false (sym h ∙ upto all x y z e k))

  both_first : (x y : X) (zs : List X) → (cmp x y ≡ Equal → x ≡ y)
      → cond (is_gt (cmp x y)) (y ∷ x ∷ zs) (x ∷ y ∷ zs) ≡ cond (is_gt (cmp y x)) (x ∷ y ∷ zs) (y ∷ x ∷ zs)
  both_first x y zs exact = rw (all.antisymm y x) (go (cmp x y) refl)
    where
      go : (o : Ordering) → cmp x y ≡ o
          → cond (is_gt o) (y ∷ x ∷ zs) (x ∷ y ∷ zs) ≡ cond (is_gt (ordering_reverse o)) (x ∷ y ∷ zs) (y ∷ x ∷ zs)
      go Less e = refl
      go Equal e = ap (λ w. w ∷ y ∷ zs) (exact e) ∙ ap (λ w. y ∷ w ∷ zs) (sym (exact e))
      go Greater e = refl

  -- it doesn't matter which of two comes first
  pub placed-placed : (x y : X) (zs : List X) → (cmp x y ≡ Equal → x ≡ y)
      → placed cmp x (placed cmp y zs) ≡ placed cmp y (placed cmp x zs)
  placed-placed x y [] exact = both_first x y [] exact
  placed-placed x y (z ∷ zs) exact = go (is_gt (cmp x z)) (is_gt (cmp y z)) refl refl (placed-placed x y zs exact)
    where
      go : (a b : Bool) → is_gt (cmp x z) ≡ a → is_gt (cmp y z) ≡ b
          → placed cmp x (placed cmp y zs) ≡ placed cmp y (placed cmp x zs)
          → placed cmp x (cond b (z ∷ placed cmp y zs) (y ∷ z ∷ zs))
          ≡ placed cmp y (cond a (z ∷ placed cmp x zs) (x ∷ z ∷ zs))
      go true true h k more = rw (h, k) (ap (λ l. z ∷ l) more)
      go true false h k more = rw (above x y z h k, h, k) refl
      go false true h k more = rw (above y x z k h, k, h) refl
      go false false h k more = rw (h, k) (both_first x y (z ∷ zs) exact)

-- elements in ascending order of their places are arranged by their places where they tie
module _ {A X : Type 0} (f : A → X) (cmp : X → X → Ordering) (place : A → A → Ordering) where
  abbrev With : A → A → Ordering
  With = then_cmp (on f cmp) place

  same_test : (o : Ordering) → is_gt (ordering_then o Less) ≡ is_gt o
  same_test Less = refl
  same_test Equal = refl
  same_test Greater = refl

  placed_by_place : (a : A) (bs : List A) → AllByRecursion (λ b. place a b ≡ Less) bs
      → map f (placed With a bs) ≡ placed cmp (f a) (map f bs)
  placed_by_place a [] below = refl
  placed_by_place a (b ∷ bs) below =
      rw (below.0, same_test (cmp (f a) (f b))) (go (is_gt (cmp (f a) (f b))) (placed_by_place a bs below.1))
    where
      go : (t : Bool) → map f (placed With a bs) ≡ placed cmp (f a) (map f bs)
          → map f (cond t (b ∷ placed With a bs) (a ∷ b ∷ bs))
          ≡ cond t (f b ∷ placed cmp (f a) (map f bs)) (f a ∷ f b ∷ map f bs)
      go true more = ap (λ l. f b ∷ l) more
      go false more = refl

  all-sorted : (P : A → Type 0) (c : A → A → Ordering) (es : List A) → AllByRecursion P es
      → AllByRecursion P (sorted c es)
  unfolding sorted
  all-sorted P c [] all = tt
  all-sorted P c (a ∷ es) all = all-placed c P a (sorted c es) all.0 (all-sorted P c es all.1)

  pub sorted_by_place : (es : List A) → IsStrictlySortedBy place es → map f (sorted With es) ≡ sorted cmp (map f es)
  unfolding sorted IsStrictlySortedBy
  sorted_by_place [] up = refl
  sorted_by_place (a ∷ es) up = placed_by_place a (sorted With es) (all-sorted (λ b. place a b ≡ Less) With es up.0)
      ∙ ap (placed cmp (f a)) (sorted_by_place es up.1)

first-placed : (o : Direction) (d : Datum) (es : List Datum)
    → earlier o d (first_or_null es) ≡ first_or_null (placed (cell_cmp o) d es)
first-placed o d [] = first_null o d
first-placed o d (e ∷ es) = go (is_gt (cell_cmp o d e))
  where
    go : (b : Bool) → cond b e d ≡ first_or_null (cond b (e ∷ placed (cell_cmp o) d es) (d ∷ e ∷ es))
    go true = refl
    go false = refl

pub first_in-sorted : FirstOfSorted
unfolding first_in sorted
first_in-sorted o [] = refl
first_in-sorted o (d ∷ ds) = ap (earlier o d) (first_in-sorted o ds) ∙ first-placed o d (sorted (cell_cmp o) ds)
