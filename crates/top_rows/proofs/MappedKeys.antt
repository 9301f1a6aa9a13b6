-- Keys that are stored as others of the same order: those are inserted and removed as these are, and ascend as they do.
use Rattle.std.proofs.Common.{◌≡◌, refl, ap, ◌∙◌}
use Rattle.std.specs.Prelude.{List, [], ◌∷◌, true, false, cond, map}
use Rattle.std.specs.declared.cmp.Ordering.{Ordering}
use Rattle.std.specs.declared.cmp.Ordering.TheVariants.{Equal, Greater, Less}
use Rattle.std.specs.Ordering.{is_eq, match_ordering}
use Rattle.std.specs.List.{AllByRecursion}
use Rattle.std.specs.List.Sorted.{IsStrictlySortedBy}
use Rattle.std.specs.BTreeMap.{is_at}
use Rattle.std.specs.BTreeSet.{insert_key}
use Rattle.std.specs.Set.{remove_key}

module _ {A K : Type 0} (R : A → A → Ordering) (S : K → K → Ordering) (f : A → K)
    (same : (x y : A) → S (f x) (f y) ≡ R x y)
  where
    pub insert-mapped : (a : A) (xs : List A) → map f (insert_key R xs a) ≡ insert_key S (map f xs) (f a)
    insert-mapped a [] = refl
    insert-mapped a (x ∷ xs) =
        rw (same a x)
        (elim (R a x) as (λ r. map f (match_ordering r (a ∷ x ∷ xs) (x ∷ xs) (x ∷ insert_key R xs a))
        ≡ match_ordering r (f a ∷ f x ∷ map f xs) (f x ∷ map f xs) (f x ∷ insert_key S (map f xs) (f a)))
        [ Less ↦ refl | Equal ↦ refl | Greater ↦ ap (λ l. f x ∷ l) (insert-mapped a xs) ])

    pub remove-mapped : (a : A) (xs : List A)
        → map f (remove_key (is_at (R a)) xs) ≡ remove_key (is_at (S (f a))) (map f xs)
    remove-mapped a [] = refl
    remove-mapped a (x ∷ xs) =
        rw (same a x)
        (elim (is_eq (R a x)) as (λ b. map f (cond b xs (x ∷ remove_key (is_at (R a)) xs))
        ≡ cond b (map f xs) (f x ∷ remove_key (is_at (S (f a))) (map f xs)))
        [ true ↦ refl | false ↦ ap (λ l. f x ∷ l) (remove-mapped a xs) ])

    below-mapped : (a : A) (xs : List A) → AllByRecursion (λ y. R a y ≡ Less) xs
        → AllByRecursion (λ y. S (f a) y ≡ Less) (map f xs)
    below-mapped a [] all = tt
    below-mapped a (x ∷ xs) all = (same a x ∙ all.0, below-mapped a xs all.1)

    pub sorted-mapped : (xs : List A) → IsStrictlySortedBy R xs → IsStrictlySortedBy S (map f xs)
    unfolding IsStrictlySortedBy
    sorted-mapped [] s = tt
    sorted-mapped (x ∷ xs) s = (below-mapped x xs s.0, sorted-mapped xs s.1)
