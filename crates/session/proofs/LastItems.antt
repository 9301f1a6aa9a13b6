-- The last items of a list that is longer than the limit.
use Rattle.std.proofs.Common.{
  ◌≡◌,
  ℕ,
  zero,
  suc,
  ◌≤◌,
  Option,
  None,
  Some,
  List,
  [],
  ◌∷◌,
  ◌++◌,
  length,
  take,
  refl,
  ap,
  sym,
  arith,
}
use Rattle.std.specs.Prelude.{IfSome, slice_get}
use Rattle.std.proofs.lemmas.Option.{none-some}

same_some : {X : Type 0} (x y : X) → Some x ≡ Some y → x ≡ y
same_some x y h = cc h

pub last_out : {X : Type 0} (k : ℕ) (xs : List X) (x : X) → length xs ≤ suc k → slice_get xs k ≡ Some x
    → xs ≡ take k xs ++ x ∷ []
last_out k [] x few is = absurd (none-some x is)
last_out zero (y ∷ []) x few is = ap (λ z. z ∷ []) (same_some y x is)
last_out zero (y ∷ z ∷ zs) x few is = absurd (omega (arith, few))
last_out (suc k) (y ∷ ys) x few is = ap (λ zs. y ∷ zs) (last_out k ys x (omega (arith, few)) is)

pub none_out : {X : Type 0} (k : ℕ) (xs : List X) → slice_get xs k ≡ None → take k xs ≡ xs
none_out zero [] is = refl
none_out (suc k) [] is = refl
none_out zero (y ∷ ys) is = absurd (none-some y (sym is))
none_out (suc k) (y ∷ ys) is = ap (λ zs. y ∷ zs) (none_out k ys is)

pub if_oldest : {X : Type 0} (r : Option X) (k : ℕ) (xs : List X) → length xs ≤ suc k → r ≡ slice_get xs k
    → IfSome r (λ x. xs ≡ take k xs ++ x ∷ [])
if_oldest None k xs few is = tt
if_oldest (Some x) k xs few is = last_out k xs x few (sym is)
