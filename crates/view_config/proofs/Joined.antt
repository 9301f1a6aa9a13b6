-- Columns of joined rows, by number.
use Rattle.std.proofs.Common.{◌≡◌, ℕ, zero, suc, ◌-◌, ◌<◌, ◌≤◌, List, [], ◌∷◌, ◌++◌, length, refl, arith, slice_get}

pub get-left : {X : Type 0} (xs ys : List X) (n : ℕ) → n < length xs → slice_get (xs ++ ys) n ≡ slice_get xs n
get-left [] ys n h = absurd (omega (arith, h))
get-left (x ∷ xs) ys zero h = refl
get-left (x ∷ xs) ys (suc n) h = get-left xs ys n (omega (arith, h))

pub get-right :
    {X : Type 0} (xs ys : List X) (n : ℕ) → length xs ≤ n → slice_get (xs ++ ys) n ≡ slice_get ys (n - length xs)
get-right [] ys n h = let e : n - 0 ≡ n = omega arith in rw e refl
get-right (x ∷ xs) ys zero h = absurd (omega (arith, h))
get-right (x ∷ xs) ys (suc n) h =
    let e : suc n - suc (length xs) ≡ n - length xs = omega arith in
    rw e (get-right xs ys n (omega (arith, h)))

pub ruleset parts = (get-left, get-right)
