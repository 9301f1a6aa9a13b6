-- The cells of joined rows.
use Rattle.std.proofs.Common.{
  ◌≡◌,
  ℕ,
  zero,
  suc,
  List,
  [],
  ◌∷◌,
  ◌++◌,
  ◌-◌,
  ◌<◌,
  ◌≤◌,
  length,
  refl,
  ap,
  ◌∙◌,
  append-nil,
  arith,
}
use Rattle.std.specs.Prelude.{replicate}
use Rattle.values.specs.Datum.{Datum, null}
use Rattle.view_lang.specs.Cells.{cell_at}

pub cell_left : (xs ys : List Datum) (k : ℕ) → k < length xs → cell_at (xs ++ ys) k ≡ cell_at xs k
cell_left [] ys k below = absurd (omega (arith, below))
cell_left (x ∷ xs) ys zero below = refl
cell_left (x ∷ xs) ys (suc k) below = cell_left xs ys k (omega (arith, below))

pub cell_right : (xs ys : List Datum) (k : ℕ) → length xs ≤ k → cell_at (xs ++ ys) k ≡ cell_at ys (k - length xs)
cell_right [] ys k past = ap (cell_at ys) (omega arith)
cell_right (x ∷ xs) ys zero past = absurd (omega (arith, past))
cell_right (x ∷ xs) ys (suc k) past = cell_right xs ys k (omega (arith, past)) ∙ ap (cell_at ys) (omega arith)

pub cell_null : (n k : ℕ) → cell_at (replicate n null) k ≡ null
cell_null zero k = refl
cell_null (suc n) zero = refl
cell_null (suc n) (suc k) = cell_null n k

pub ruleset joined_parts = (cell_left, cell_right, cell_null)

pub ruleset no_side = (append-nil)
