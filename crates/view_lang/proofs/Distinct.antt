-- Distinct values, counted one row after the other, and in any order.
use Rattle.std.proofs.Common.{◌≡◌, ℕ, ◌+◌, ◌≤◌, Bool, true, false, cond, ◌||◌, List, [], ◌∷◌, length, refl, ap, ◌∙◌, arith}
use Rattle.std.specs.Cmp.{eq_by_cmp_equiv}
use Rattle.values.specs.Datum.{Datum}
use Rattle.view_lang.specs.Contents.{is_among, same_key}
use Rattle.view_lang.specs.Folds.{distinct}
use Rattle.view_lang.proofs.Orders.{datum_cmp_total}

-- Values, one after the other

-- 1 unless a test holds
abbrev pub one_unless : Bool → ℕ
one_unless true = 0
one_unless false = 1

length_if : (b : Bool) (d : Datum) (ds : List Datum) → length (cond b ds (d ∷ ds)) ≡ one_unless b + length ds
length_if true d ds = omega arith
length_if false d ds = omega arith

pub length-distinct : (d : Datum) (ds : List Datum)
    → length (distinct (d ∷ ds)) ≡ one_unless (is_among d ds) + length (distinct ds)
unfolding distinct
length-distinct d ds = length_if (is_among d ds) d (distinct ds)

at_most_one : (b : Bool) → one_unless b ≤ 1
at_most_one true = omega arith
at_most_one false = omega arith

pub few_distinct : (ds : List Datum) → length (distinct ds) ≤ length ds
unfolding distinct
few_distinct [] = omega arith
few_distinct (d ∷ ds) = omega (arith, length-distinct d ds, at_most_one (is_among d ds), few_distinct ds)

-- In any order

pub either_first : (a b c : Bool) → (a || (b || c)) ≡ (b || (a || c))
either_first true true c = refl
either_first true false c = refl
either_first false true c = refl
either_first false false c = refl

pub one_more_alike : (x : Datum) (xs ys : List Datum) → is_among x xs ≡ is_among x ys
    → length (distinct xs) ≡ length (distinct ys) → length (distinct (x ∷ xs)) ≡ length (distinct (x ∷ ys))
one_more_alike x xs ys h k =
    let few : one_unless (is_among x xs) ≡ one_unless (is_among x ys) = ap one_unless h in
    omega (arith, length-distinct x xs, length-distinct x ys, few, k)

pub same_symm : (x y : Datum) → same_key x y ≡ same_key y x
same_symm x y = (eq_by_cmp_equiv datum_cmp_total).symm x y

-- A value can be replaced by an equal one.
pub among_alike : (x y : Datum) (ds : List Datum) → same_key x y ≡ true → is_among x ds ≡ is_among y ds
unfolding is_among
among_alike x y [] h = refl
among_alike x y (d ∷ ds) h =
    ap (λ b. b || is_among x ds) ((eq_by_cmp_equiv datum_cmp_total).congr x y d h)
    ∙ ap (λ b. same_key y d || b) (among_alike x y ds h)

two_by : (n : ℕ) (s p q : Bool) → (s ≡ true → p ≡ q)
    → one_unless (s || p) + (one_unless q + n) ≡ one_unless (s || q) + (one_unless p + n)
two_by n true p q h = let alike : one_unless p ≡ one_unless q = ap one_unless (h refl) in omega (arith, alike)
two_by n false p q h = omega arith

pub two_turned : (x y : Datum) (xs : List Datum) → length (distinct (x ∷ y ∷ xs)) ≡ length (distinct (y ∷ x ∷ xs))
unfolding is_among
two_turned x y xs =
    let one = length-distinct x (y ∷ xs) in
    let two = length-distinct y xs in
    let three = length-distinct y (x ∷ xs) in
    let four = length-distinct x xs in
    let turned : one_unless (same_key y x || is_among y xs) ≡ one_unless (same_key x y || is_among y xs) =
    ap (λ b. one_unless (b || is_among y xs)) (same_symm y x) in
    let both = two_by (length (distinct xs)) (same_key x y) (is_among x xs) (is_among y xs) (among_alike x y xs) in
    omega (arith, one, two, three, four, turned, both)

-- Rows, one after the other
