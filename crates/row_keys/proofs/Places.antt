-- The item at an index of a list that is longer, shorter, or changed at one index.
use Rattle.std.proofs.Common.{
  ◌≡◌,
  inl,
  inr,
  ◌⊎◌,
  ℕ,
  zero,
  suc,
  ◌+◌,
  ◌<◌,
  List,
  [],
  ◌∷◌,
  ◌++◌,
  Some,
  length,
  take,
  set,
  refl,
  ap,
  sym,
  ◌∙◌,
  arith,
  ◌-◌,
  length-append,
}
use Rattle.std.specs.Prelude.{slice_get}
use Rattle.std.proofs.lemmas.Option.{none-some}

pub at_more : {X : Type 0} (xs ys : List X) (n : ℕ) (x : X) → slice_get xs n ≡ Some x → slice_get (xs ++ ys) n ≡ Some x
at_more [] ys n x h = absurd (none-some x h)
at_more (a ∷ xs) ys zero x h = h
at_more (a ∷ xs) ys (suc n) x h = at_more xs ys n x h

pub at_end : {X : Type 0} (xs : List X) (y : X) → slice_get (xs ++ y ∷ []) (length xs) ≡ Some y
at_end [] y = refl
at_end (a ∷ xs) y = at_end xs y

pub at_pushed :
    {X : Type 0} (xs : List X) (y : X) (n : ℕ) (x : X) → slice_get (xs ++ y ∷ []) n ≡ Some x
    → (slice_get xs n ≡ Some x) ⊎ ((n ≡ length xs) × (y ≡ x))
at_pushed [] y zero x h = inr (refl, cc h)
at_pushed [] y (suc n) x h = absurd (none-some x h)
at_pushed (a ∷ xs) y zero x h = inl h
at_pushed (a ∷ xs) y (suc n) x h = elim (at_pushed xs y n x h) [ inl e ↦ inl e | inr p ↦ inr (ap suc p.0, p.1) ]

pub at_taken :
    {X : Type 0} (xs : List X) (k n : ℕ) (x : X) → slice_get (take k xs) n ≡ Some x
    → (n < k) × (slice_get xs n ≡ Some x)
at_taken [] zero n x h = absurd (none-some x h)
at_taken [] (suc k) n x h = absurd (none-some x h)
at_taken (a ∷ xs) zero n x h = absurd (none-some x h)
at_taken (a ∷ xs) (suc k) zero x h = (omega arith, h)
at_taken (a ∷ xs) (suc k) (suc n) x h = let r = at_taken xs k n x h in (omega (arith, r.0), r.1)

pub at_kept :
    {X : Type 0} (xs : List X) (k n : ℕ) (x : X) → n < k → slice_get xs n ≡ Some x → slice_get (take k xs) n ≡ Some x
at_kept [] k n x below h = absurd (none-some x h)
at_kept (a ∷ xs) zero n x below h = absurd (omega (arith, below))
at_kept (a ∷ xs) (suc k) zero x below h = h
at_kept (a ∷ xs) (suc k) (suc n) x below h = at_kept xs k n x (omega (arith, below)) h

pub at_new : {X : Type 0} (xs : List X) (k : ℕ) (y : X) → k < length xs → slice_get (set xs k y) k ≡ Some y
at_new [] k y below = absurd (omega (arith, below))
at_new (a ∷ xs) zero y below = refl
at_new (a ∷ xs) (suc k) y below = at_new xs k y (omega (arith, below))

pub at_other :
    {X : Type 0} (xs : List X) (k : ℕ) (y : X) (n : ℕ) (x : X) → (n ≡ k → ⊥) → slice_get xs n ≡ Some x
    → slice_get (set xs k y) n ≡ Some x
at_other [] k y n x other h = h
at_other (a ∷ xs) zero y zero x other h = absurd (other refl)
at_other (a ∷ xs) zero y (suc n) x other h = h
at_other (a ∷ xs) (suc k) y zero x other h = h
at_other (a ∷ xs) (suc k) y (suc n) x other h = at_other xs k y n x (λ e. other (ap suc e)) h

pub some_same : {X : Type 0} (x y : X) → Some x ≡ Some y → x ≡ y
some_same x y h = cc h

pub take_front : {X : Type 0} (xs ys : List X) → take (length xs) (xs ++ ys) ≡ xs
take_front [] [] = refl
take_front [] (y ∷ ys) = refl
take_front (x ∷ xs) ys = ap (λ zs. x ∷ zs) (take_front xs ys)

pub take_init : {X : Type 0} (xs : List X) (y : X) → xs ≡ take (length (xs ++ y ∷ []) - 1) (xs ++ y ∷ [])
take_init xs y =
    let many : length (xs ++ y ∷ []) ≡ length xs + 1 = length-append xs (y ∷ []) in
    let less : length xs ≡ length (xs ++ y ∷ []) - 1 = omega (arith, many) in
    sym (take_front xs (y ∷ [])) ∙ ap (λ n. take n (xs ++ y ∷ [])) less
