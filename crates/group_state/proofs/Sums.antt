-- The sums of few numbers that are small fit.
use Rattle.std.proofs.Common.{◌≡◌, refl, arith}
use Rattle.std.specs.Prelude.{ℕ, suc, ◌*◌, ◌≤◌, ◌^◌, ℤ, pos, neg_ℤ, ◌+ℤ◌, ◌≤ℤ◌, List, [], ◌∷◌, map, length, FitsSigned}
use mir.Syntax.{w128}
use Rattle.std.specs.List.{AllByRecursion}
use Rattle.std.proofs.lemmas.Int.{ints}
use Rattle.values.specs.Datum.{Datum, null, truth, whole, text, bytes, list, structure}
use Rattle.view_lang.specs.Cells.{cell_at}
use Rattle.view_lang.specs.Folds.{number_in, total, values_at}
use Rattle.view_lang.specs.Aggregates.{IsSmall}
use Rattle.group_state.specs.Reading.{filled}

next_total : (d : Datum) (ds : List Datum) → total (filled (d ∷ ds)) ≡ number_in d +ℤ total (filled ds)
unfolding total
next_total null ds = omega (arith, ints)
next_total (truth b) ds = refl
next_total (whole n) ds = refl
next_total (text t) ds = refl
next_total (bytes b) ds = refl
next_total (list es) ds = refl
next_total (structure es) ds = refl

abbrev pub IsWithin : ℕ → ℤ → Type 0
IsWithin n z = (neg_ℤ (pos (2 ^ 96 * n)) ≤ℤ z) × (z ≤ℤ pos (2 ^ 96 * n))

none-within : IsWithin 0 (total [])
unfolding total
none-within = (omega (arith, ints), omega (arith, ints))

more-within : (n : ℕ) (a b c : ℤ) → IsSmall a → IsWithin n b → c ≡ a +ℤ b → IsWithin (suc n) c
more-within n a b c s h e = (omega (arith, ints, s, h, e), omega (arith, ints, s, h, e))

pub total-within : (k : ℕ) (rows : List (List Datum)) → AllByRecursion (λ row. IsSmall (number_in (cell_at row k))) rows
    → IsWithin (length rows) (total (values_at k rows))
total-within k [] a = none-within
total-within k (r ∷ rs) a = more-within (length rs) (number_in (cell_at r k)) (total (values_at k rs)) _ a.0
    (total-within k rs a.1) (next_total (cell_at r k) (map (λ row. cell_at row k) rs))

pub within-fits : (n : ℕ) (z : ℤ) → n ≤ 2 ^ 24 → IsWithin n z → FitsSigned w128 z
within-fits n z h w = omega (arith, ints, h, w)
