-- Grouping tuples: they ascend, each is a row's, and each row's is among them.
use Rattle.std.proofs.Common.{
  ◌≡◌,
  ℕ,
  zero,
  suc,
  ◌<◌,
  Bool,
  true,
  false,
  cond,
  ◌||◌,
  List,
  [],
  ◌∷◌,
  map,
  length,
  get_or,
  refl,
  sym,
  ap,
  ◌∙◌,
  arith,
}
use Rattle.std.specs.List.{list_any, dedup, dedup_from}
use Rattle.std.specs.Ordering.{is_eq}
use Rattle.std.proofs.lemmas.Cmp.{tied_itself, alike_right}
use Rattle.std.specs.List.Sorted.{IsStrictlySortedBy}
use Rattle.std.proofs.lemmas.List.Kept.{Contains-from_dedup, IsStrictlySortedBy-dedup}
use Rattle.std.proofs.lemmas.List.Sorted.{Contains-permutation, list_any-IsPermutation}
use Rattle.values.specs.Datum.{Datum}
use Rattle.view_lang.specs.Cells.{cells_at}
use Rattle.view_lang.specs.Sorted.{sorted}
use Rattle.view_lang.specs.RowOrder.{tuple_cmp}
use Rattle.view_lang.specs.Groups.{tuples_of, same_tuple}
use Rattle.view_lang.specs.ViewLaws.{TuplesAreOfRows, TuplesAscend, TuplesAsk, TuplesCover}
use Rattle.view_lang.proofs.Orders.{tuple_cmp_total}
use Rattle.view_lang.proofs.StableOrder.{IsPermutation-sorted, arranged-sorted, from_is_eq}

twice : (a b : Bool) → (a || b) ≡ (a || (a || b))
twice true b = refl
twice false b = refl

list_any-dedup_from :
    {X : Type 0} (p : X → Bool) (same : X → X → Bool) → ((x y : X) → same x y ≡ true → p x ≡ p y)
    → (k : X) (xs : List X)
    → list_any p (dedup_from same k xs) ≡ (p k || list_any p xs)
list_any-dedup_from p same alike k [] = refl
list_any-dedup_from {X} p same alike k (x ∷ xs) =
    go (same x k) refl (list_any-dedup_from p same alike k xs) (list_any-dedup_from p same alike x xs)
  where
    go : (b : Bool) → same x k ≡ b → list_any p (dedup_from same k xs) ≡ (p k || list_any p xs)
        → list_any p (dedup_from same x xs) ≡ (p x || list_any p xs)
        → list_any p (cond b (dedup_from same k xs) (k ∷ dedup_from same x xs)) ≡ (p k || (p x || list_any p xs))
    go true e i j = i ∙ twice (p k) (list_any p xs) ∙ ap (λ b. p k || (b || list_any p xs)) (sym (alike x k e))
    go false e i j = ap (λ b. p k || b) j

list_any-dedup :
    {X : Type 0} (p : X → Bool) (same : X → X → Bool) → ((x y : X) → same x y ≡ true → p x ≡ p y) → (xs : List X)
    → list_any p (dedup same xs) ≡ list_any p xs
list_any-dedup p same alike [] = refl
list_any-dedup p same alike (x ∷ xs) = list_any-dedup_from p same alike x xs

any_at :
    {X Y : Type 0} (p : Y → Bool) (f : X → Y) (xs : List X) (k : ℕ) (x : X) → k < length xs → get_or xs k x ≡ x
    → p (f x) ≡ true → list_any p (map f xs) ≡ true
any_at p f [] k x below is here = absurd (omega (arith, below))
any_at p f (y ∷ ys) zero x below is here = ap (λ b. b || list_any p (map f ys)) (ap (λ z. p (f z)) is ∙ here)
any_at p f (y ∷ ys) (suc k) x below is here = ap (λ b. p (f y) || b) (any_at p f ys k x (omega (arith, below)) is here)
    ∙ last (p (f y))
  where
    last : (b : Bool) → (b || true) ≡ true
    last true = refl
    last false = refl

pub tuples-cover : TuplesCover
unfolding tuples_of
tuples-cover k ks rows row h =
    let by : List ℕ = k ∷ ks in
    let t : List Datum = cells_at by row in
    let p : List Datum → Bool = same_tuple t in
    let alike : (x y : List Datum) → same_tuple x y ≡ true → p x ≡ p y =
    λ x y e. ap is_eq (alike_right tuple_cmp_total x y t (from_is_eq tuple_cmp tuple_cmp_total (tuple_cmp x y) e)) in
    list_any-dedup p same_tuple alike (sorted tuple_cmp (map (cells_at by) rows))
    ∙ list_any-IsPermutation p _ _ (IsPermutation-sorted tuple_cmp (map (cells_at by) rows))
    ∙ any_at p (cells_at by) rows h.0 row h.1 h.2 (ap is_eq (tied_itself tuple_cmp_total t))

pub tuples-ask : TuplesAsk
unfolding tuples_of
tuples-ask k ks rows t =
    let p : List Datum → Bool = same_tuple t in
    let alike : (x y : List Datum) → same_tuple x y ≡ true → p x ≡ p y =
    λ x y e. ap is_eq (alike_right tuple_cmp_total x y t (from_is_eq tuple_cmp tuple_cmp_total (tuple_cmp x y) e)) in
    list_any-dedup p same_tuple alike (sorted tuple_cmp (map (cells_at (k ∷ ks)) rows))
    ∙ list_any-IsPermutation p _ _ (IsPermutation-sorted tuple_cmp (map (cells_at (k ∷ ks)) rows))

pub tuples-ascend : TuplesAscend
unfolding tuples_of IsStrictlySortedBy
tuples-ascend [] rows = (tt, tt)
tuples-ascend (k ∷ ks) rows =
    IsStrictlySortedBy-dedup tuple_cmp_total (λ x y. refl) (sorted tuple_cmp (map (cells_at (k ∷ ks)) rows))
    (arranged-sorted tuple_cmp tuple_cmp_total (map (cells_at (k ∷ ks)) rows)).ascending

pub tuples-of_rows : TuplesAreOfRows
unfolding tuples_of
tuples-of_rows k ks rows t h =
    Contains-permutation _ _ t (IsPermutation-sorted tuple_cmp (map (cells_at (k ∷ ks)) rows))
    (Contains-from_dedup same_tuple (sorted tuple_cmp (map (cells_at (k ∷ ks)) rows)) t h)

pub ruleset tuple_laws = (tuples-ascend, tuples-of_rows, tuples-cover, tuples-ask)
