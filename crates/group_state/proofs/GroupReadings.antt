-- Rows that are read of groups.
use Rattle.std.proofs.Common.{◌≡◌, refl, ap, take}
use Rattle.std.specs.Prelude.{ℕ, zero, suc, List, [], ◌∷◌, map}
use Rattle.std.specs.List.{AllByRecursion}
use Rattle.values.specs.Datum.{Datum}
use Rattle.view_lang.specs.Cells.{cell_at}
use Rattle.view_lang.specs.Aggregates.{IsKeyCell}
use Rattle.group_state.specs.Rows.{cells}

pub cells-keys : (k : ℕ) (rows : List (List Datum)) → AllByRecursion (λ row. IsKeyCell (cell_at row k)) rows
    → AllByRecursion IsKeyCell (cells k rows)
cells-keys k [] a = tt
cells-keys k (r ∷ rs) a = (a.0, cells-keys k rs a.1)

pub take-map : {X Y : Type 0} (f : X → Y) (n : ℕ) (xs : List X) → map f (take n xs) ≡ take n (map f xs)
take-map f zero xs = refl
take-map f (suc n) [] = refl
take-map f (suc n) (x ∷ xs) = ap (λ ys. f x ∷ ys) (take-map f n xs)
