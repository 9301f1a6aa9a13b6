-- Fields of two schemas, as a loop compares them.
use Rattle.std.proofs.Common.{
  ◌≡◌,
  ◌≢◌,
  ℕ,
  suc,
  ◌+◌,
  ◌<◌,
  ◌≤◌,
  Bool,
  true,
  false,
  ◌&&◌,
  List,
  [],
  ◌∷◌,
  length,
  drop,
  get_or,
  refl,
  ap,
  sym,
  subst,
  ◌∙◌,
  arith,
}
use Rattle.values.specs.Rose.{Rose, kids_of}
use Rattle.values.proofs.Roses.{kids_step, kids_end, kid_smaller}
use Rattle.values.specs.Logical.{NamedType}
use Rattle.schema_meta.specs.SameColumns.{is_same, are_same}

abbrev Fields : Type 0
Fields = List (Rose NamedType)

abbrev left : Fields → Fields → ℕ → Bool
left xs ys i = are_same (kids_of (drop i xs)) (kids_of (drop i ys))

and_false : (b : Bool) → (b && false) ≡ false
and_false true = refl
and_false false = refl

pub same_lengths : (xs ys : Fields) → length xs ≢ length ys → are_same (kids_of xs) (kids_of ys) ≡ false
same_lengths [] [] h = absurd (h refl)
same_lengths [] (y ∷ ys) h = refl
same_lengths (x ∷ xs) [] h = refl
same_lengths (x ∷ xs) (y ∷ ys) h =
    let rest : are_same (kids_of xs) (kids_of ys) ≡ false = same_lengths xs ys (λ e. h (ap suc e)) in
    rw rest (and_false (is_same x y))

same_here :
    (xs ys : Fields) (i : ℕ) (x y d : Rose NamedType) → i < length xs → length xs ≡ length ys → x ≡ get_or xs i d
    → y ≡ get_or ys i d
    → left xs ys i ≡ (is_same x y && left xs ys (i + 1))
same_here xs ys i x y d below same ex ey =
    rw (kids_step xs i x d ex below, kids_step ys i y d ey (omega (arith, below, same))) refl

pub same_step :
    (xs ys : Fields) (i : ℕ) (x y d : Rose NamedType) (w : Bool) → i < length xs → length xs ≡ length ys
    → x ≡ get_or xs i d
    → y ≡ get_or ys i d → is_same x y ≡ true → left xs ys i ≡ w → left xs ys (i + 1) ≡ w
same_step xs ys i x y d w below same ex ey t e =
    let P : Bool → Type 0 = λ b. (b && left xs ys (i + 1)) ≡ w in
    subst P t (sym (same_here xs ys i x y d below same ex ey) ∙ e)

pub same_stop :
    (xs ys : Fields) (i : ℕ) (x y d : Rose NamedType) (w : Bool) → i < length xs → length xs ≡ length ys
    → x ≡ get_or xs i d
    → y ≡ get_or ys i d → is_same x y ≡ false → left xs ys i ≡ w → w ≡ false
same_stop xs ys i x y d w below same ex ey t e =
    let P : Bool → Type 0 = λ b. (b && left xs ys (i + 1)) ≡ w in
    sym (subst P t (sym (same_here xs ys i x y d below same ex ey) ∙ e))

pub same_end : (xs ys : Fields) (i : ℕ) (w : Bool) → length xs ≤ i → length xs ≡ length ys → left xs ys i ≡ w → w ≡ true
same_end xs ys i w all same e =
    let both : left xs ys i ≡ true = rw (kids_end xs i all, kids_end ys i (omega (arith, all, same))) refl in
    sym e ∙ both

pub ruleset same = (same_lengths, same_step, same_stop, same_end, kid_smaller)
