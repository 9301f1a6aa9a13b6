-- Lists of the values of a function at numbers.
use Rattle.std.proofs.Common.{◌≡◌, ℕ, zero, suc, ◌+◌, ◌<◌, ◌≤◌, ◌∷◌, ◌++◌, get_or, length, map, take, refl, ap, ◌∙◌, arith}
use Rattle.std.specs.Prelude.{replicate, slice_set}
use Rattle.row_keys.specs.Listed.{listed}

pub listed_long : {X : Type 0} (f : ℕ → X) (n m : ℕ) → length (listed f n m) ≡ m
listed_long f n zero = refl
listed_long f n (suc m) = ap suc (listed_long f (suc n) m)

pub listed_at : {X : Type 0} (f : ℕ → X) (n m i : ℕ) (d : X) → i < m → get_or (listed f n m) i d ≡ f (n + i)
listed_at f n zero i d below = absurd (omega (arith, below))
listed_at f n (suc m) zero d below = let e : n ≡ n + 0 = omega arith in ap f e
listed_at f n (suc m) (suc i) d below =
    let e : suc n + i ≡ n + suc i = omega arith in
    listed_at f (suc n) m i d (omega (arith, below)) ∙ ap f e

pub listed_past : {X : Type 0} (f : ℕ → X) (n m i : ℕ) (d : X) → m ≤ i → get_or (listed f n m) i d ≡ d
listed_past f n zero i d past = refl
listed_past f n (suc m) zero d past = absurd (omega (arith, past))
listed_past f n (suc m) (suc i) d past = listed_past f (suc n) m i d (omega (arith, past))

pub listed_same : {X : Type 0} (f g : ℕ → X) (n m : ℕ) → ((i : ℕ) → n ≤ i → i < n + m → f i ≡ g i) → listed f n m ≡ listed g n m
listed_same f g n zero same = refl
listed_same f g n (suc m) same =
    ap (λ r. r ∷ listed f (suc n) m) (same n (omega arith) (omega arith))
    ∙ ap (λ rs. g n ∷ rs) (listed_same f g (suc n) m (λ i from below. same i (omega (arith, from)) (omega (arith, below))))

pub listed_add : {X : Type 0} (f : ℕ → X) (n a b c : ℕ) → c ≡ a + b → listed f n c ≡ listed f n a ++ listed f (n + a) b
listed_add f n zero b c is =
    let e : c ≡ b = omega (arith, is) in
    let z : n ≡ n + 0 = omega arith in
    ap (λ m. listed f n m) e ∙ ap (λ m. listed f m b) z
listed_add f n (suc a) b zero is = absurd (omega (arith, is))
listed_add f n (suc a) b (suc c) is =
    let e : suc n + a ≡ n + suc a = omega arith in
    ap (λ rs. f n ∷ rs)
    (listed_add f (suc n) a b c (omega (arith, is)) ∙ ap (λ m. listed f (suc n) a ++ listed f m b) e)

pub listed_take : {X : Type 0} (f : ℕ → X) (n m k : ℕ) → k ≤ m → take k (listed f n m) ≡ listed f n k
listed_take f n zero zero le = refl
listed_take f n zero (suc k) le = absurd (omega (arith, le))
listed_take f n (suc m) zero le = refl
listed_take f n (suc m) (suc k) le = ap (λ rs. f n ∷ rs) (listed_take f (suc n) m k (omega (arith, le)))

pub listed_whole : {X : Type 0} (f : ℕ → X) (n m k : ℕ) → m ≤ k → take k (listed f n m) ≡ listed f n m
listed_whole f n zero zero le = refl
listed_whole f n zero (suc k) le = refl
listed_whole f n (suc m) zero le = absurd (omega (arith, le))
listed_whole f n (suc m) (suc k) le = ap (λ rs. f n ∷ rs) (listed_whole f (suc n) m k (omega (arith, le)))

-- all are the same
pub listed_all : {X : Type 0} (f : ℕ → X) (x : X) (n m : ℕ) → ((i : ℕ) → n ≤ i → f i ≡ x) → listed f n m ≡ replicate m x
listed_all f x n zero is = refl
listed_all f x n (suc m) is =
    ap (λ y. y ∷ listed f (suc n) m) (is n (omega arith))
    ∙ ap (λ ys. x ∷ ys) (listed_all f x (suc n) m (λ i from. is i (omega (arith, from))))

pub map_listed : {X Y : Type 0} (f : X → Y) (g : ℕ → X) (n m : ℕ) → map f (listed g n m) ≡ listed (λ i. f (g i)) n m
map_listed f g n zero = refl
map_listed f g n (suc m) = ap (λ ys. f (g n) ∷ ys) (map_listed f g (suc n) m)

-- one is another
pub listed_set :
    {X : Type 0} (f g : ℕ → X) (n m d : ℕ) (r : X) → ((i : ℕ) → (i ≡ n + d → ⊥) → g i ≡ f i) → g (n + d) ≡ r
    → listed g n m ≡ slice_set (listed f n m) d r
listed_set f g n zero d r same here = refl
listed_set f g n (suc m) zero r same here =
    let e : n ≡ n + 0 = omega arith in
    ap (λ x. x ∷ listed g (suc n) m) (ap g e ∙ here)
    ∙ ap (λ rs. r ∷ rs) (listed_same g f (suc n) m (λ i from below. same i (λ is. omega (arith, from, is))))
listed_set f g n (suc m) (suc d) r same here =
    let e : suc n + d ≡ n + suc d = omega arith in
    ap (λ x. x ∷ listed g (suc n) m) (same n (λ is. omega (arith, is)))
    ∙ ap (λ rs. f n ∷ rs)
    (listed_set f g (suc n) m d r (λ i other. same i (λ is. other (omega (arith, is)))) (ap g e ∙ here))
