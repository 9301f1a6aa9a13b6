-- The stable rearrangement: it is one, and the only one.
use Rattle.std.proofs.Common.{◌≡◌, suc, zero, Bool, true, false, not, ◌&&◌, cond, List, [], ◌∷◌, filter, refl, sym, ap, ◌∙◌, subst, arith, true≢false, add-one}
use Rattle.std.specs.declared.cmp.Ordering.{Ordering}
use Rattle.std.specs.declared.cmp.Ordering.TheVariants.{Less, Equal, Greater}
use Rattle.std.specs.Ordering.{is_lt, is_gt, is_eq, ordering_reverse}
use Rattle.std.specs.List.{AllByRecursion}
use Rattle.std.specs.List.Sorted.{IsPermutation, IsSorted, IsStable, ties}
use Rattle.std.specs.Cmp.{IsTotalOrder}
use Rattle.std.proofs.lemmas.Cmp.{alike_right, tied_itself, upto}
use Rattle.std.proofs.lemmas.List.Sorted.{IsPermutation-refl, IsPermutation-cons, IsPermutation-trans, IsPermutation-sym, IsPermutation-middle}
use Rattle.view_lang.specs.Sorted.{placed, sorted, IsArranged, Rises}

abbrev pub weaker : {X : Type 0} (P Q : X → Type 0) → ((x : X) → P x → Q x) → (xs : List X) → AllByRecursion P xs
    → AllByRecursion Q xs
weaker P Q f [] all = tt
weaker P Q f (x ∷ xs) all = (f x all.0, weaker P Q f xs all.1)

abbrev pub tied : {X : Type 0} → (X → X → Ordering) → X → X → Bool
tied cmp x y = is_eq (cmp x y)

pub all-placed : {X : Type 0} (cmp : X → X → Ordering) (P : X → Type 0) (x : X) (ys : List X) → P x
    → AllByRecursion P ys → AllByRecursion P (placed cmp x ys)
all-placed cmp P x [] h all = (h, tt)
all-placed {X} cmp P x (y ∷ ys) h all =
    go (is_gt (cmp x y)) (all-placed cmp P x ys h all.1)
  where
    go : (b : Bool) → AllByRecursion P (placed cmp x ys) → AllByRecursion P (cond b (y ∷ placed cmp x ys) (x ∷ y ∷ ys))
    go true more = (all.0, more)
    go false more = (h, all)

IsPermutation-placed : {X : Type 0} (cmp : X → X → Ordering) (x : X) (ys : List X)
    → IsPermutation (placed cmp x ys) (x ∷ ys)
IsPermutation-placed cmp x [] = IsPermutation-refl _
IsPermutation-placed cmp x (y ∷ ys) =
    elim (is_gt (cmp x y)) as (λ b. IsPermutation (cond b (y ∷ placed cmp x ys) (x ∷ y ∷ ys)) (x ∷ y ∷ ys)) [
      | true ↦ IsPermutation-trans _ _ _ (IsPermutation-cons y _ _ (IsPermutation-placed cmp x ys))
          (IsPermutation-middle (y ∷ []) x ys)
      | false ↦ IsPermutation-refl _
    ]

pub IsPermutation-sorted : {X : Type 0} (cmp : X → X → Ordering) (xs : List X) → IsPermutation (sorted cmp xs) xs
unfolding sorted
IsPermutation-sorted cmp [] = IsPermutation-refl []
IsPermutation-sorted cmp (x ∷ xs) =
    IsPermutation-trans _ _ _ (IsPermutation-placed cmp x _) (IsPermutation-cons x _ _ (IsPermutation-sorted cmp xs))

-- elements of which all tie keep their order
filter-placed :
    {X : Type 0} (cmp : X → X → Ordering) (p : X → Bool) → ((x y : X) → p x ≡ true → p y ≡ true → cmp x y ≡ Equal)
    → (x : X) (ys : List X)
    → filter p (placed cmp x ys) ≡ filter p (x ∷ ys)
filter-placed cmp p alike x [] = refl
filter-placed {X} cmp p alike x (y ∷ ys) = go (is_gt (cmp x y)) refl (filter-placed cmp p alike x ys)
  where
    apart : (a b : Bool) → p x ≡ a → p y ≡ b → is_gt (cmp x y) ≡ true
        → cond b (y ∷ cond a (x ∷ filter p ys) (filter p ys)) (cond a (x ∷ filter p ys) (filter p ys))
        ≡ cond a (x ∷ cond b (y ∷ filter p ys) (filter p ys)) (cond b (y ∷ filter p ys) (filter p ys))
    apart true true e f above = absurd (true≢false (sym above ∙ ap is_gt (alike x y e f)))
    apart true false e f above = refl
    apart false b e f above = refl

    go : (c : Bool) → is_gt (cmp x y) ≡ c → filter p (placed cmp x ys) ≡ filter p (x ∷ ys)
        → filter p (cond c (y ∷ placed cmp x ys) (x ∷ y ∷ ys)) ≡ filter p (x ∷ y ∷ ys)
    go false e more = refl
    go true e more = ap (λ l. cond (p y) (y ∷ l) l) more ∙ apart (p x) (p y) refl refl e

pub filter-sorted :
    {X : Type 0} (cmp : X → X → Ordering) (p : X → Bool) → ((x y : X) → p x ≡ true → p y ≡ true → cmp x y ≡ Equal)
    → (xs : List X)
    → filter p (sorted cmp xs) ≡ filter p xs
unfolding sorted
filter-sorted cmp p alike [] = refl
filter-sorted cmp p alike (x ∷ xs) =
    filter-placed cmp p alike x (sorted cmp xs) ∙ ap (λ l. cond (p x) (x ∷ l) l) (filter-sorted cmp p alike xs)

module _ {X : Type 0} (cmp : X → X → Ordering) (total : IsTotalOrder cmp) where
  ties_is : (x y : X) → ties (λ a b. is_lt (cmp a b)) x y ≡ tied cmp x y
  ties_is x y = rw (total.antisymm y x) (go (cmp x y))
    where
      go : (o : Ordering) → (not (is_lt o) && not (is_lt (ordering_reverse o))) ≡ is_eq o
      go Less = refl
      go Equal = refl
      go Greater = refl

  pub from_is_eq : (o : Ordering) → is_eq o ≡ true → o ≡ Equal
  from_is_eq Less h = absurd (true≢false (sym h))
  from_is_eq Equal h = refl
  from_is_eq Greater h = absurd (true≢false (sym h))

  pub tied_alike : (z x y : X) → tied cmp z x ≡ true → tied cmp z y ≡ true → cmp x y ≡ Equal
  tied_alike z x y h k = sym (total.congr z x y (from_is_eq _ h)) ∙ from_is_eq _ k

  turned : (o : Ordering) → is_gt o ≡ true → is_gt (ordering_reverse o) ≡ false
  turned Less h = absurd (true≢false (sym h))
  turned Equal h = refl
  turned Greater h = refl

  turned_back : (o : Ordering) → is_lt o ≡ false → is_gt (ordering_reverse o) ≡ false
  turned_back Less h = h
  turned_back Equal h = refl
  turned_back Greater h = refl

  turned_lt : (o : Ordering) → is_gt o ≡ false → is_lt (ordering_reverse o) ≡ false
  turned_lt Less h = refl
  turned_lt Equal h = refl
  turned_lt Greater h = absurd (true≢false h)

  rises-placed : (x : X) (ys : List X) → Rises cmp ys → Rises cmp (placed cmp x ys)
  rises-placed x [] up = (tt, tt)
  rises-placed x (y ∷ ys) up = go (is_gt (cmp x y)) refl (rises-placed x ys up.1)
    where
      go : (b : Bool) → is_gt (cmp x y) ≡ b → Rises cmp (placed cmp x ys)
          → Rises cmp (cond b (y ∷ placed cmp x ys) (x ∷ y ∷ ys))
      go true e more = (all-placed cmp _ x ys (ap is_gt (total.antisymm y x) ∙ turned _ e) up.0, more)
      go false e more = ((e, weaker _ (λ z. is_gt (cmp x z) ≡ false) (λ z h. upto total x y z e h) ys up.0), up)

  pub rises-sorted : (xs : List X) → Rises cmp (sorted cmp xs)
  unfolding sorted
  rises-sorted [] = tt
  rises-sorted (x ∷ xs) = rises-placed x (sorted cmp xs) (rises-sorted xs)

  -- two lists that rise, of which each class of ties is the same, are the same
  pub none_tied : (x : X) (zs : List X) → AllByRecursion (λ z. cmp x z ≡ Less) zs → filter (tied cmp x) zs ≡ []
  none_tied x [] all = refl
  none_tied x (z ∷ zs) all = rw all.0 (none_tied x zs all.1)

  pub below_all : (x z : X) (zs : List X) → cmp x z ≡ Less → AllByRecursion (λ y. is_gt (cmp z y) ≡ false) zs
      → AllByRecursion (λ y. cmp x y ≡ Less) (z ∷ zs)
  below_all x z zs h up = (h, weaker _ (λ y. cmp x y ≡ Less) (λ y k. go y (cmp z y) refl k) zs up)
    where
      go : (y : X) (o : Ordering) → cmp z y ≡ o → is_gt o ≡ false → cmp x y ≡ Less
      go y Less e k = total.trans x z y h e
      go y Equal e k = sym (alike_right total z y x e) ∙ h
      go y Greater e k = absurd (true≢false k)

  rest_same : (y : X) (ys zs : List X) → ((x : X) → filter (tied cmp x) (y ∷ ys) ≡ filter (tied cmp x) (y ∷ zs))
      → (x : X) → filter (tied cmp x) ys ≡ filter (tied cmp x) zs
  rest_same y ys zs same x = go (tied cmp x y) (same x)
    where
      go : (b : Bool)
          → cond b (y ∷ filter (tied cmp x) ys) (filter (tied cmp x) ys)
          ≡ cond b (y ∷ filter (tied cmp x) zs) (filter (tied cmp x) zs)
          → filter (tied cmp x) ys ≡ filter (tied cmp x) zs
      go true e = cc
      go false e = e

  nothing_here : (y : X) (ys : List X) → filter (tied cmp y) (y ∷ ys) ≡ [] → ⊥
  nothing_here y ys e = let k = rw (tied_itself total y) at e in cc

  heads : (y z : X) (ys zs : List X) → cmp y z ≡ Equal → filter (tied cmp y) (y ∷ ys) ≡ filter (tied cmp y) (z ∷ zs)
      → y ≡ z
  heads y z ys zs e same = let k = rw (tied_itself total y, e) at same in cc

  pub one_rising : (ys zs : List X) → Rises cmp ys → Rises cmp zs
      → ((x : X) → filter (tied cmp x) ys ≡ filter (tied cmp x) zs) → ys ≡ zs
  one_rising [] [] up vp same = refl
  one_rising [] (z ∷ zs) up vp same = absurd (nothing_here z zs (sym (same z)))
  one_rising (y ∷ ys) [] up vp same = absurd (nothing_here y ys (same y))
  one_rising (y ∷ ys) (z ∷ zs) up vp same = go (cmp y z) refl (one_rising ys zs up.1 vp.1)
    where
      go : (o : Ordering) → cmp y z ≡ o → (((x : X) → filter (tied cmp x) ys ≡ filter (tied cmp x) zs) → ys ≡ zs)
          → y ∷ ys ≡ z ∷ zs
      go Less e more = absurd (nothing_here y ys (same y ∙ none_tied y (z ∷ zs) (below_all y z zs e vp.0)))
      go Greater e more =
          let under : cmp z y ≡ Less = total.antisymm z y ∙ ap ordering_reverse e in
          absurd (nothing_here z zs (sym (same z) ∙ none_tied z (y ∷ ys) (below_all z y ys under up.0)))
      go Equal e more =
          let head : y ≡ z = heads y z ys zs e (same y) in
          let P : X → Type 0 = λ w. (x : X) → filter (tied cmp x) (y ∷ ys) ≡ filter (tied cmp x) (w ∷ zs) in
          let tail : ys ≡ zs = more (rest_same y ys zs (subst P (sym head) same)) in
          cc

  rises_from_sorted : (xs : List X) → IsSorted cmp xs → Rises cmp xs
  rises_from_sorted [] up = tt
  rises_from_sorted (x ∷ xs) up =
      let tail : IsSorted cmp xs = λ k d p q. rw add-one (rw add-one at (up (suc k) d (omega arith) (omega arith))) in
      let more = rises_from_sorted xs tail in
      (first xs up more, more)
    where
      first : (ys : List X) → IsSorted cmp (x ∷ ys) → Rises cmp ys → AllByRecursion (λ y. is_gt (cmp x y) ≡ false) ys
      first [] h r = tt
      first (y ∷ ys) h r =
          let here : is_gt (cmp x y) ≡ false =
          ap is_gt (total.antisymm x y) ∙ turned_back _ (h 0 x (omega arith) (omega arith)) in
          (here, weaker _ (λ z. is_gt (cmp x z) ≡ false) (λ z k. upto total x y z here k) ys r.0)

  sorted_from_rises : (xs : List X) → Rises cmp xs → IsSorted cmp xs
  sorted_from_rises [] up = λ k d p q. absurd (omega arith)
  sorted_from_rises (x ∷ xs) up = go xs up (sorted_from_rises xs up.1)
    where
      go : (ys : List X) → Rises cmp (x ∷ ys) → IsSorted cmp ys → IsSorted cmp (x ∷ ys)
      go [] r more k d p q = absurd (omega arith)
      go (y ∷ ys) r more zero d p q = ap is_lt (total.antisymm y x) ∙ turned_lt _ r.0.0
      go (y ∷ ys) r more (suc k) d p q = rw add-one (rw add-one at (more k d (omega arith) (omega arith)))

  same_classes : (xs ys : List X) → IsStable cmp xs ys → (x : X) → filter (tied cmp x) ys ≡ filter (tied cmp x) xs
  same_classes xs ys stable x =
      sym (ap (λ p. filter p ys) (λ i y. ties_is x y i)) ∙ stable x ∙ ap (λ p. filter p xs) (λ i y. ties_is x y i)

  -- what is sorted and stable is the rearrangement
  pub sorted_is : (xs ys : List X) → IsSorted cmp ys → IsStable cmp xs ys → ys ≡ sorted cmp xs
  sorted_is xs ys up stable =
      one_rising ys (sorted cmp xs) (rises_from_sorted ys up) (rises-sorted xs)
      (λ x. same_classes xs ys stable x ∙ sym (filter-sorted cmp (tied cmp x) (tied_alike x) xs))

  pub arranged-sorted : (xs : List X) → IsArranged cmp xs (sorted cmp xs)
  arranged-sorted xs = record {
    rearranged = IsPermutation-sym _ _ (IsPermutation-sorted cmp xs);
    ascending = sorted_from_rises (sorted cmp xs) (rises-sorted xs);
    stable = λ x.
        ap (λ p. filter p (sorted cmp xs)) (λ i y. ties_is x y i) ∙ filter-sorted cmp (tied cmp x) (tied_alike x) xs
        ∙ sym (ap (λ p. filter p xs) (λ i y. ties_is x y i));
  }
