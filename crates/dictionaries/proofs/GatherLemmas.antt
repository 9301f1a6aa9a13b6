-- Values that are copied one by one, and a value that replaces itself.
use Rattle.std.proofs.Common.{
  ◌≡◌,
  ℕ,
  zero,
  suc,
  ◌+◌,
  ◌≤◌,
  List,
  [],
  ◌∷◌,
  ◌++◌,
  Some,
  length,
  take,
  refl,
  ap,
  sym,
  ◌∙◌,
  arith,
}
use Rattle.std.specs.Prelude.{slice_get}
use Rattle.std.specs.Map.{values_of}
use Rattle.indexmap.specs.IndexMap.{set_value_at}
use Rattle.std.proofs.lemmas.List.{take_all}
use Rattle.values.specs.Datum.{Datum}

take-one-more : (xs : List Datum) (i : ℕ) (d : Datum) → slice_get xs i ≡ Some d → take i xs ++ d ∷ [] ≡ take (i + 1) xs
take-one-more [] i d is = absurd (cc)
take-one-more (x ∷ xs) zero d is =
    let same : x ≡ d = cc in
    ap (λ y. y ∷ []) (sym same)
take-one-more (x ∷ xs) (suc i) d is =
    let more : suc i + 1 ≡ suc (i + 1) = omega arith in
    ap (λ ys. x ∷ ys) (take-one-more xs i d is) ∙ ap (λ n. take n (x ∷ xs)) (sym more)

pub copied-more : (xs made next : List Datum) (i : ℕ) (d : Datum) → slice_get xs i ≡ Some d → made ≡ take i xs
    → next ≡ made ++ d ∷ [] → next ≡ take (i + 1) xs
copied-more xs made next i d is all n = n ∙ ap (λ ys. ys ++ d ∷ []) all ∙ take-one-more xs i d is

pub copied-all : (xs made : List Datum) (n : ℕ) → length xs ≤ n → made ≡ take n xs → made ≡ xs
copied-all xs made n all is = is ∙ take_all n xs all

-- A value that is put where it was changes nothing.
pub value-in-place : {K X : Type 0} (es : List (K × X)) (i : ℕ) (x : X) → slice_get (values_of es) i ≡ Some x
    → set_value_at es i x ≡ es
value-in-place [] i x is = refl
value-in-place (e ∷ es) zero x is =
    let same : e.1 ≡ x = cc in
    ap (λ y. (e.0, y) ∷ es) (sym same)
value-in-place (e ∷ es) (suc i) x is = ap (λ rest. e ∷ rest) (value-in-place es i x is)

pub ruleset copying = (copied-more, copied-all)

pub ruleset replacing = (value-in-place)
