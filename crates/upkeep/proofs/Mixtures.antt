-- Loops that walk two lists index by index: what holds of the indices that are passed, and of those ahead.
use Rattle.std.proofs.Common.{
  ◌≡◌,
  ℕ,
  zero,
  suc,
  ◌+◌,
  ◌<◌,
  ◌≤◌,
  List,
  [],
  ◌∷◌,
  add-one,
  ap,
  arith,
  get_or,
  length,
  subst,
  sym,
}
use Rattle.std.specs.Prelude.{slice_set}

-- The lists are of one length, and it holds at each index.
abbrev pub Each : {X Y : Type 0} → (X → Y → Type 0) → List X → List Y → Type 0
Each P [] [] = Unit {0}
Each P [] (y ∷ ys) = ⊥
Each P (x ∷ xs) [] = ⊥
Each P (x ∷ xs) (y ∷ ys) = P x y × Each P xs ys

-- The first n items are done; those ahead are as they were.
abbrev pub Mixed : {X Y : Type 0} → (X → Y → Type 0) → (X → Y → Type 0) → ℕ → List X → List Y → Type 0
Mixed Done Ahead zero xs ys = Each Ahead xs ys
Mixed Done Ahead (suc n) [] [] = Unit {0}
Mixed Done Ahead (suc n) [] (y ∷ ys) = ⊥
Mixed Done Ahead (suc n) (x ∷ xs) [] = ⊥
Mixed Done Ahead (suc n) (x ∷ xs) (y ∷ ys) = Done x y × Mixed Done Ahead n xs ys

pub each_weaker :
    {X Y : Type 0} (P Q : X → Y → Type 0) → ((x : X) (y : Y) → P x y → Q x y) → (xs : List X) (ys : List Y)
    → Each P xs ys → Each Q xs ys
each_weaker P Q weaker [] [] each = each
each_weaker P Q weaker [] (y ∷ ys) each = absurd each
each_weaker P Q weaker (x ∷ xs) [] each = absurd each
each_weaker P Q weaker (x ∷ xs) (y ∷ ys) each = (weaker x y each.0, each_weaker P Q weaker xs ys each.1)

pub each_length : {X Y : Type 0} (P : X → Y → Type 0) (xs : List X) (ys : List Y) → Each P xs ys → length ys ≡ length xs
each_length P [] [] each = omega arith
each_length P [] (y ∷ ys) each = absurd each
each_length P (x ∷ xs) [] each = absurd each
each_length P (x ∷ xs) (y ∷ ys) each = ap suc (each_length P xs ys each.1)

each_there :
    {X Y : Type 0} (P : X → Y → Type 0) (n : ℕ) (xs : List X) (ys : List Y) (x : X) (y : Y) → Each P xs ys
    → n < length xs → x ≡ get_or xs n x → y ≡ get_or ys n y → P x y
each_there P n [] ys x y each below at_x at_y = absurd (omega (arith, below))
each_there P n (a ∷ xs) [] x y each below at_x at_y = absurd each
each_there P zero (a ∷ xs) (b ∷ ys) x y each below at_x at_y =
    subst (λ z. P x z) (sym at_y) (subst (λ z. P z b) (sym at_x) each.0)
each_there P (suc n) (a ∷ xs) (b ∷ ys) x y each below at_x at_y =
    each_there P n xs ys x y each.1 (omega (arith, below)) at_x at_y

-- what holds at the next index
pub mixed_next :
    {X Y : Type 0} (Done Ahead : X → Y → Type 0) (n : ℕ) (xs : List X) (ys : List Y) (x : X) (y : Y)
    → Mixed Done Ahead n xs ys → n < length xs → x ≡ get_or xs n x → y ≡ get_or ys n y → Ahead x y
mixed_next Done Ahead zero xs ys x y mixed below at_x at_y =
    each_there Ahead zero xs ys x y mixed below at_x at_y
mixed_next Done Ahead (suc n) [] ys x y mixed below at_x at_y = absurd (omega (arith, below))
mixed_next Done Ahead (suc n) (a ∷ xs) [] x y mixed below at_x at_y = absurd mixed
mixed_next Done Ahead (suc n) (a ∷ xs) (b ∷ ys) x y mixed below at_x at_y =
    mixed_next Done Ahead n xs ys x y mixed.1 (omega (arith, below)) at_x at_y

mixed_set :
    {X Y : Type 0} (Done Ahead : X → Y → Type 0) (n : ℕ) (xs : List X) (ys : List Y) (x : X) (y : Y)
    → Mixed Done Ahead n xs ys → n < length xs → x ≡ get_or xs n x → Done x y
    → Mixed Done Ahead (suc n) xs (slice_set ys n y)
mixed_set Done Ahead n [] ys x y mixed below at_x done = absurd (omega (arith, below))
mixed_set Done Ahead zero (a ∷ xs) [] x y mixed below at_x done = absurd mixed
mixed_set Done Ahead (suc n) (a ∷ xs) [] x y mixed below at_x done = absurd mixed
mixed_set Done Ahead zero (a ∷ xs) (b ∷ ys) x y mixed below at_x done =
    (subst (λ z. Done z y) at_x done, mixed.1)
mixed_set Done Ahead (suc n) (a ∷ xs) (b ∷ ys) x y mixed below at_x done =
    (mixed.0, mixed_set Done Ahead n xs ys x y mixed.1 (omega (arith, below)) at_x done)

-- one item more is done
pub mixed_more :
    {X Y : Type 0} (Done Ahead : X → Y → Type 0) (n : ℕ) (xs : List X) (ys : List Y) (x : X) (y : Y)
    → Mixed Done Ahead n xs ys → n < length xs → x ≡ get_or xs n x → Done x y
    → Mixed Done Ahead (n + 1) xs (slice_set ys n y)
mixed_more Done Ahead n xs ys x y mixed below at_x done =
    subst (λ m. Mixed Done Ahead m xs (slice_set ys n y)) (sym (add-one n))
    (mixed_set Done Ahead n xs ys x y mixed below at_x done)

-- what follows at each index, done or ahead
pub mixed_each :
    {X Y : Type 0} (Done Ahead P : X → Y → Type 0) → ((x : X) (y : Y) → Done x y → P x y)
    → ((x : X) (y : Y) → Ahead x y → P x y) → (n : ℕ) (xs : List X) (ys : List Y)
    → Mixed Done Ahead n xs ys → Each P xs ys
mixed_each Done Ahead P passed ahead zero xs ys mixed = each_weaker Ahead P ahead xs ys mixed
mixed_each Done Ahead P passed ahead (suc n) [] [] mixed = mixed
mixed_each Done Ahead P passed ahead (suc n) [] (y ∷ ys) mixed = absurd mixed
mixed_each Done Ahead P passed ahead (suc n) (x ∷ xs) [] mixed = absurd mixed
mixed_each Done Ahead P passed ahead (suc n) (x ∷ xs) (y ∷ ys) mixed =
    (passed x y mixed.0, mixed_each Done Ahead P passed ahead n xs ys mixed.1)

-- at the end
pub mixed_all :
    {X Y : Type 0} (Done Ahead : X → Y → Type 0) (n : ℕ) (xs : List X) (ys : List Y)
    → Mixed Done Ahead n xs ys → length xs ≤ n → Each Done xs ys
mixed_all Done Ahead zero [] [] mixed all = mixed
mixed_all Done Ahead zero [] (y ∷ ys) mixed all = absurd mixed
mixed_all Done Ahead zero (x ∷ xs) ys mixed all = absurd (omega (arith, all))
mixed_all Done Ahead (suc n) [] [] mixed all = mixed
mixed_all Done Ahead (suc n) [] (y ∷ ys) mixed all = absurd mixed
mixed_all Done Ahead (suc n) (x ∷ xs) [] mixed all = absurd mixed
mixed_all Done Ahead (suc n) (x ∷ xs) (y ∷ ys) mixed all =
    (mixed.0, mixed_all Done Ahead n xs ys mixed.1 (omega (arith, all)))
