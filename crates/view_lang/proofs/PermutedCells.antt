-- What cells have in common with a permutation of them.
use Rattle.std.proofs.Common.{
  ◌≡◌,
  ℕ,
  zero,
  suc,
  ◌<◌,
  Bool,
  true,
  false,
  not,
  cond,
  List,
  [],
  ◌∷◌,
  map,
  filter,
  length,
  get_or,
  set,
  refl,
  sym,
  ap,
  ap₂,
  ◌∙◌,
  arith,
}
use Rattle.std.specs.Prelude.{◌||◌, ◌+ℤ◌}
use Rattle.std.specs.declared.cmp.Ordering.{Ordering}
use Rattle.std.specs.declared.cmp.Ordering.TheVariants.{Less, Equal, Greater}
use Rattle.std.specs.Ordering.{ordering_then}
use Rattle.std.specs.Cmp.{IsTotalOrder}
use Rattle.std.specs.Cmp.Lexicographic.{slice_cmp}
use Rattle.std.specs.List.{AllByRecursion, swap}
use Rattle.std.specs.List.Sorted.{IsPermutation}
use Rattle.std.proofs.lemmas.Cmp.{tied_back}
use Rattle.std.proofs.lemmas.Int.{ints}
use Rattle.std.proofs.lemmas.List.Sorted.{
  IsPermutation-keeps,
  IsPermutation-map,
  IsPermutation-refl,
  IsPermutation-cons,
  IsPermutation-trans,
  IsPermutation-middle,
}
use Rattle.std.proofs.lemmas.Map.Lookups.{exact_signed, exact_bytes}
use Rattle.values.specs.Datum.{Datum, null, truth, whole, text, bytes, list, structure, is_null}
use Rattle.values.specs.Order.{datum_cmp}
use Rattle.view_lang.specs.Cells.{cell_at}
use Rattle.view_lang.specs.Sorted.{placed, sorted}
use Rattle.view_lang.specs.RowOrder.{cell_cmp, tuple_cmp}
use Rattle.view_lang.specs.Aggregates.{IsKeyCell}
use Rattle.view_lang.specs.Folds.{values_at, distinct, number_in, total, sum_of, first_in}
use Rattle.view_lang.specs.ViewLaws.{first_or_null}
use Rattle.view_lang.specs.declared.view.Direction.{Direction}
use Rattle.view_lang.specs.declared.view.Direction.TheVariants as direction
use Rattle.view_lang.specs.Contents.{is_among, same_key}
use Rattle.view_lang.proofs.Distinct.{either_first, one_more_alike, two_turned}
use Rattle.view_lang.proofs.Orders.{cell_cmp_total, datum_cmp_total}
use Rattle.view_lang.proofs.KeptRows.{placed-placed, first_in-sorted}

pub all-map : {X Y : Type 0} (P : Y → Type 0) (f : X → Y) (xs : List X) → AllByRecursion (λ x. P (f x)) xs
    → AllByRecursion P (map f xs)
all-map P f [] all = tt
all-map P f (x ∷ xs) all = (all.0, all-map P f xs all.1)

-- what holds of a list and itself, also with a head before both, and where the first two are exchanged, holds of each
-- rearrangement
module _ {X : Type 0} (R : List X → List X → Type 0)
    (same : (xs : List X) → R xs xs)
    (skip : (x : X) (xs ys : List X) → R xs ys → R (x ∷ xs) (x ∷ ys))
    (turn : (x y : X) (xs : List X) → R (x ∷ y ∷ xs) (y ∷ x ∷ xs))
    (chain : (xs ys zs : List X) → R xs ys → R ys zs → R xs zs) where
  to_head : (l : List X) (j : ℕ) (x d : X) → j < length l → R (x ∷ l) (get_or l j d ∷ set l j x)
  to_head [] j x d h = absurd (omega arith)
  to_head (y ∷ l) zero x d h = turn x y l
  to_head (y ∷ l) (suc j) x d h =
      chain _ _ _ (turn x y l)
      (chain _ _ _ (skip y _ _ (to_head l j x d (omega arith))) (turn y (get_or l j d) (set l j x)))

  exchanged : (l : List X) (i j : ℕ) (d : X) → i < length l → j < length l
      → R l (set (set l i (get_or l j d)) j (get_or l i d))
  exchanged [] i j d p q = absurd (omega arith)
  exchanged (x ∷ l) zero zero d p q = same (x ∷ l)
  exchanged (x ∷ l) zero (suc j) d p q = to_head l j x d (omega arith)
  exchanged (x ∷ l) (suc i) zero d p q = to_head l i x d (omega arith)
  exchanged (x ∷ l) (suc i) (suc j) d p q = skip x _ _ (exchanged l i j d (omega arith) (omega arith))

  swapped : (l : List X) (i j : ℕ) → i < length l → j < length l → R l (swap l i j)
  swapped [] i j p q = same []
  swapped (x ∷ l) i j p q = exchanged (x ∷ l) i j x p q

  pub along_permutation : (xs ys : List X) → IsPermutation xs ys → R xs ys
  along_permutation xs = IsPermutation-keeps xs (R xs) (same xs) (λ l i j p q h. chain xs l _ h (swapped l i j p q))

-- A value is in both or in neither, and both have as many distinct values.
abbrev AskAlike : List Datum → List Datum → Type 0
AskAlike xs ys = ((d : Datum) → is_among d xs ≡ is_among d ys) × (length (distinct xs) ≡ length (distinct ys))

alike_skip : (x : Datum) (xs ys : List Datum) → AskAlike xs ys → AskAlike (x ∷ xs) (x ∷ ys)
unfolding is_among
alike_skip x xs ys h = (λ d. ap (λ b. same_key d x || b) (h.0 d), one_more_alike x xs ys (h.0 x) h.1)

alike_turn : (x y : Datum) (xs : List Datum) → AskAlike (x ∷ y ∷ xs) (y ∷ x ∷ xs)
unfolding is_among
alike_turn x y xs = (λ d. either_first (same_key d x) (same_key d y) (is_among d xs), two_turned x y xs)

alike_chain : (xs ys zs : List Datum) → AskAlike xs ys → AskAlike ys zs → AskAlike xs zs
alike_chain xs ys zs h k = (λ d. h.0 d ∙ k.0 d, h.1 ∙ k.1)

pub distinct_same : (xs ys : List Datum) → IsPermutation xs ys → length (distinct xs) ≡ length (distinct ys)
distinct_same xs ys same =
    (along_permutation AskAlike (λ l. (λ d. refl, refl)) alike_skip alike_turn alike_chain xs ys same).1

pub IsPermutation-filter : {X : Type 0} (p : X → Bool) (xs ys : List X) → IsPermutation xs ys
    → IsPermutation (filter p xs) (filter p ys)
IsPermutation-filter {X} p =
    along_permutation (λ xs ys. IsPermutation (filter p xs) (filter p ys)) (λ xs. IsPermutation-refl _) skip turn
    (λ xs ys zs. IsPermutation-trans _ _ _)
  where
    skip : (x : X) (xs ys : List X) → IsPermutation (filter p xs) (filter p ys)
        → IsPermutation (filter p (x ∷ xs)) (filter p (x ∷ ys))
    skip x xs ys h =
        elim (p x) as
        (λ b. IsPermutation (cond b (x ∷ filter p xs) (filter p xs))
        (cond b (x ∷ filter p ys) (filter p ys))) [ true ↦ IsPermutation-cons x _ _ h | false ↦ h ]

    turn : (x y : X) (xs : List X) → IsPermutation (filter p (x ∷ y ∷ xs)) (filter p (y ∷ x ∷ xs))
    turn x y xs = go (p x) (p y)
      where
        go : (a b : Bool)
            → IsPermutation
            (cond a (x ∷ cond b (y ∷ filter p xs) (filter p xs)) (cond b (y ∷ filter p xs) (filter p xs)))
            (cond b (y ∷ cond a (x ∷ filter p xs) (filter p xs)) (cond a (x ∷ filter p xs) (filter p xs)))
        go true true = IsPermutation-middle (x ∷ []) y (filter p xs)
        go true false = IsPermutation-refl _
        go false true = IsPermutation-refl _
        go false false = IsPermutation-refl _

pub all-filter : {X : Type 0} (P : X → Type 0) (p : X → Bool) (xs : List X) → AllByRecursion P xs
    → AllByRecursion P (filter p xs)
all-filter P p [] all = tt
all-filter {X} P p (x ∷ xs) all =
    go (p x) (all-filter P p xs all.1)
  where
    go : (b : Bool) → AllByRecursion P (filter p xs) → AllByRecursion P (cond b (x ∷ filter p xs) (filter p xs))
    go true more = (all.0, more)
    go false more = more

-- an order in which elements tie only where they are the same
module _ {X : Type 0} (cmp : X → X → Ordering) (total_order : IsTotalOrder cmp) (P : X → Type 0)
    (exact : (x y : X) → P x → cmp x y ≡ Equal → x ≡ y) where
  abbrev Alike : List X → List X → Type 0
  Alike xs ys = AllByRecursion P xs → (sorted cmp xs ≡ sorted cmp ys) × AllByRecursion P ys

  skip_one : (x : X) (xs ys : List X) → Alike xs ys → Alike (x ∷ xs) (x ∷ ys)
  unfolding sorted
  skip_one x xs ys h a = let r = h a.1 in (ap (placed cmp x) r.0, (a.0, r.1))

  turn_two : (x y : X) (xs : List X) → Alike (x ∷ y ∷ xs) (y ∷ x ∷ xs)
  unfolding sorted
  turn_two x y xs a = (placed-placed cmp total_order x y (sorted cmp xs) (exact x y a.0), (a.1.0, (a.0, a.1.1)))

  chain_two : (xs ys zs : List X) → Alike xs ys → Alike ys zs → Alike xs zs
  chain_two xs ys zs h k a = let r = h a in let s = k r.1 in (r.0 ∙ s.0, s.1)

  pub sorted_same : (xs ys : List X) → IsPermutation xs ys → AllByRecursion P xs → sorted cmp xs ≡ sorted cmp ys
  sorted_same xs ys same all =
      (along_permutation Alike (λ l a. (refl, a)) skip_one turn_two chain_two xs ys same all).0

then_Equal : (o s : Ordering) → ordering_then o s ≡ Equal → (o ≡ Equal) × (s ≡ Equal)
then_Equal Less s h = absurd (cc)
then_Equal Equal s h = (refl, h)
then_Equal Greater s h = absurd (cc)

exact_datum : (a b : Datum) → IsKeyCell a → datum_cmp a b ≡ Equal → a ≡ b
exact_datum (truth true) (truth true) k h = refl
exact_datum (truth false) (truth false) k h = refl
exact_datum (whole x) (whole y) k h = ap whole (exact_signed x y h)
exact_datum (text x) (text y) k h = ap text (exact_bytes x y h)
exact_datum (bytes x) (bytes y) k h = ap bytes (exact_bytes x y h)
exact_datum null null k h = refl
exact_datum (list es) b k h = absurd (cc)
exact_datum (structure es) b k h = absurd (cc)
exact_datum a b k h = absurd (cc)

pub exact_tuple : (s t : List Datum) → AllByRecursion IsKeyCell s → tuple_cmp s t ≡ Equal → s ≡ t
unfolding tuple_cmp
exact_tuple [] [] k h = refl
exact_tuple [] (b ∷ t) k h = absurd (cc)
exact_tuple (a ∷ s) [] k h = absurd (cc)
exact_tuple (a ∷ s) (b ∷ t) k h =
    let e = then_Equal (datum_cmp a b) (slice_cmp datum_cmp s t) h in
    ap₂ (λ x xs. x ∷ xs) (exact_datum a b k.0 e.0) (exact_tuple s t k.1 e.1)

turned_over : (a b : Datum) → datum_cmp b a ≡ Equal → datum_cmp a b ≡ Equal
turned_over a b h = tied_back datum_cmp_total b a h

exact_cell : (o : Direction) (a b : Datum) → IsKeyCell a → cell_cmp o a b ≡ Equal → a ≡ b
exact_cell direction.Ascending a b k h = exact_datum a b k h
exact_cell direction.Descending a b k h = exact_datum a b k (go (is_null a) (is_null b) h)
  where
    go : (s t : Bool) → (cond (s || t) (datum_cmp a b) (datum_cmp b a)) ≡ Equal
        → datum_cmp a b ≡ Equal
    go true t e = e
    go false true e = e
    go false false e = turned_over a b e

total_skip : (x : Datum) (xs ys : List Datum) → total xs ≡ total ys → total (x ∷ xs) ≡ total (x ∷ ys)
unfolding total
total_skip x xs ys h = ap (λ n. number_in x +ℤ n) h

total_turn : (x y : Datum) (xs : List Datum) → total (x ∷ y ∷ xs) ≡ total (y ∷ x ∷ xs)
unfolding total
total_turn x y xs = omega (arith, ints)

pub total_same : (xs ys : List Datum) → IsPermutation xs ys → total xs ≡ total ys
total_same = along_permutation (λ xs ys. total xs ≡ total ys) (λ xs. refl) total_skip total_turn (λ xs ys zs h k. h ∙ k)

pub sum_same : (xs ys : List Datum) → length xs ≡ length ys → total xs ≡ total ys → sum_of xs ≡ sum_of ys
sum_same [] [] n h = refl
sum_same [] (y ∷ ys) n h = absurd (omega (arith, n))
sum_same (x ∷ xs) [] n h = absurd (omega (arith, n))
sum_same (x ∷ xs) (y ∷ ys) n h = ap whole h

pub first_same : (o : Direction) (xs ys : List Datum) → IsPermutation xs ys → AllByRecursion IsKeyCell xs
    → first_in o xs ≡ first_in o ys
first_same o xs ys same all =
    first_in-sorted o xs
    ∙ ap first_or_null (sorted_same (cell_cmp o) (cell_cmp_total o) IsKeyCell (exact_cell o) xs ys same all)
    ∙ sym (first_in-sorted o ys)

pub values_same : (k : ℕ) (rows others : List (List Datum)) → IsPermutation rows others
    → IsPermutation (values_at k rows) (values_at k others)
values_same k rows others same =
    IsPermutation-filter (λ d. not (is_null d)) _ _ (IsPermutation-map (λ row. cell_at row k) rows others same)

pub value_keys : (k : ℕ) (rows : List (List Datum)) → AllByRecursion (λ row. IsKeyCell (cell_at row k)) rows
    → AllByRecursion IsKeyCell (values_at k rows)
value_keys k rows all =
    all-filter IsKeyCell (λ d. not (is_null d)) _ (all-map IsKeyCell (λ row. cell_at row k) rows all)
