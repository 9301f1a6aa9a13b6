-- Keys and entries above all others come last.
use Rattle.std.proofs.Common.{◌≡◌, refl, ap, sym, ◌∙◌, subst}
use Rattle.std.proofs.lemmas.List.{append_assoc}
use Rattle.std.specs.BTreeMap.{insert_entry, is_at}
use Rattle.std.specs.BTreeSet.{insert_key}
use Rattle.std.specs.Cmp.{IsTotalOrder, tied_itself}
use Rattle.std.specs.List.{AllByRecursion}
use Rattle.std.specs.List.Sorted.{IsStrictlySortedBy}
use Rattle.std.specs.Map.{keys_of, lookup}
use Rattle.std.specs.Ordering.{is_eq, match_ordering, ordering_reverse}
use Rattle.std.specs.Prelude.{◌++◌, List, [], ◌∷◌, Some, cond}
use Rattle.std.specs.declared.cmp.Ordering.TheVariants.{Greater, Less}
use Rattle.std.specs.declared.cmp.Ordering.{Ordering}

module _ {K : Type 0} (R : K → K → Ordering) (o : IsTotalOrder R) where
  above : (x k : K) → R x k ≡ Less → R k x ≡ Greater
  above x k h = o.antisymm k x ∙ ap ordering_reverse h

  past-keys : (x k : K) (xs rest : List K) → AllByRecursion (λ y. R x y ≡ Less) (xs ++ k ∷ rest) → R x k ≡ Less
  past-keys x k [] rest a = a.0
  past-keys x k (y ∷ ys) rest a = past-keys x k ys rest a.1

  key-last : (k : K) (xs rest : List K) → IsStrictlySortedBy R (xs ++ k ∷ rest) → insert_key R xs k ≡ xs ++ k ∷ []
  unfolding IsStrictlySortedBy
  key-last k [] rest s = refl
  key-last k (x ∷ xs) rest s =
      ap (λ (r : Ordering). match_ordering r (k ∷ x ∷ xs) (x ∷ xs) (x ∷ insert_key R xs k))
      (above x k (past-keys x k xs rest s.0))
      ∙ ap (λ (l : List K). x ∷ l) (key-last k xs rest s.1)

  -- the next key is inserted into those that are there
  pub key-next : (xs : List K) (k : K) (rest all : List K) → xs ++ k ∷ rest ≡ all → IsStrictlySortedBy R all
      → insert_key R xs k ++ rest ≡ all
  key-next xs k rest all whole s =
      ap (λ (l : List K). l ++ rest) (key-last k xs rest (subst (IsStrictlySortedBy R) (sym whole) s))
      ∙ append_assoc xs (k ∷ []) rest
      ∙ whole

  module _ {X : Type 0} where
    abbrev Up : List (K × X) → Type 0
    Up es = IsStrictlySortedBy R (keys_of es)

    past-entries : (x k : K) (v : X) (es rest : List (K × X))
        → AllByRecursion (λ y. R x y ≡ Less) (keys_of (es ++ (k, v) ∷ rest)) → R x k ≡ Less
    past-entries x k v [] rest a = a.0
    past-entries x k v (e ∷ es) rest a = past-entries x k v es rest a.1

    entry-last : (k : K) (v : X) (es rest : List (K × X)) → Up (es ++ (k, v) ∷ rest)
        → insert_entry R es k v ≡ es ++ (k, v) ∷ []
    unfolding IsStrictlySortedBy
    entry-last k v [] rest s = refl
    entry-last k v (e ∷ es) rest s =
        ap (λ (r : Ordering). match_ordering r ((k, v) ∷ e ∷ es) ((e.0, v) ∷ es) (e ∷ insert_entry R es k v))
        (above e.0 k (past-entries e.0 k v es rest s.0))
        ∙ ap (λ (l : List (K × X)). e ∷ l) (entry-last k v es rest s.1)

    -- the next entry is inserted into those that are there
    pub entry-next : (es : List (K × X)) (k : K) (v : X) (rest all : List (K × X)) → es ++ (k, v) ∷ rest ≡ all → Up all
        → insert_entry R es k v ++ rest ≡ all
    entry-next es k v rest all whole s =
        ap (λ (l : List (K × X)). l ++ rest) (entry-last k v es rest (subst Up (sym whole) s))
        ∙ append_assoc es ((k, v) ∷ []) rest
        ∙ whole

    found-by : (k : K) (v : X) (es rest : List (K × X)) → Up (es ++ (k, v) ∷ rest)
        → lookup (is_at (R k)) (es ++ (k, v) ∷ rest) ≡ Some v
    unfolding IsStrictlySortedBy
    found-by k v [] rest s =
        ap (λ (r : Ordering). cond (is_eq r) (Some v) (lookup (is_at (R k)) rest)) (tied_itself o k)
    found-by k v (e ∷ es) rest s =
        ap (λ (r : Ordering). cond (is_eq r) (Some e.1) (lookup (is_at (R k)) (es ++ (k, v) ∷ rest)))
        (above e.0 k (past-entries e.0 k v es rest s.0))
        ∙ found-by k v es rest s.1

    -- each entry is found at its key
    pub found-next : (es : List (K × X)) (k : K) (v : X) (rest all : List (K × X)) → es ++ (k, v) ∷ rest ≡ all → Up all
        → lookup (is_at (R k)) all ≡ Some v
    found-next es k v rest all whole s =
        sym (ap (lookup (is_at (R k))) whole) ∙ found-by k v es rest (subst Up (sym whole) s)
