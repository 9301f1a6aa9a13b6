-- A loop that inserts ascending keys one after another: the next one comes after those that are there.
use Rattle.std.proofs.Common.{◌≡◌, ap, ◌∙◌}
use Rattle.std.specs.BTreeSet.{insert_key}
use Rattle.std.specs.Cmp.{IsTotalOrder}
use Rattle.std.specs.List.Sorted.{IsStrictlySortedBy}
use Rattle.std.specs.Prelude.{◌++◌, List, ◌∷◌, map}
use Rattle.std.specs.declared.cmp.Ordering.{Ordering}
use Rattle.view_lang.proofs.LastEntries.{key-next}

module _ {K : Type 0} (R : K → K → Ordering) (o : IsTotalOrder R) where
  pub insert-next : {X : Type 0} (f : X → K) (xs : List K) (k : K) (x : X) (rest all : List X) → k ≡ f x
      → xs ++ map f (x ∷ rest) ≡ map f all → IsStrictlySortedBy R (map f all)
      → insert_key R xs k ++ map f rest ≡ map f all
  insert-next f xs k x rest all is whole s =
      ap (λ (y : K). insert_key R xs y ++ map f rest) is
      ∙ key-next R o xs (f x) (map f rest) (map f all) whole s
