-- The cells of representatives.
use Rattle.std.proofs.Common.{
  ◌≡◌,
  ℕ,
  zero,
  suc,
  ◌+◌,
  ◌-◌,
  ◌<◌,
  ◌≤◌,
  Bool,
  true,
  false,
  List,
  [],
  ◌∷◌,
  ◌++◌,
  Option,
  None,
  Some,
  length,
  refl,
  sym,
  ap,
  subst,
  ◌∙◌,
  arith,
}
use Rattle.std.proofs.lemmas.Option.{none-some}
use Rattle.std.specs.Prelude.{◌==◌, if◌then◌else◌}
use Rattle.values.specs.Datum.{Datum, null}
use Rattle.values.specs.declared.key.Key.{Key}
use Rattle.view_lang.specs.Cells.{cell_at}
use Rattle.group_state.specs.Keys.{data_of}
use Rattle.sub_groups.specs.Places.{place_in, representative, representative_cell, representative_from}

some_is : (x y : ℕ) → Some x ≡ Some y → x ≡ y
some_is x y h = cc h

place_above : (i : ℕ) (keys : List ℕ) (k p : ℕ) → place_in i keys k ≡ Some p → i ≤ p
place_above i [] k p h = absurd (none-some p h)
place_above i (j ∷ js) k p h = go (j == k) h (λ e. place_above (suc i) js k p e)
  where
    go : (b : Bool) → (if b then Some i else place_in (suc i) js k) ≡ Some p
        → (place_in (suc i) js k ≡ Some p → suc i ≤ p) → i ≤ p
    go true e rest = let same = some_is i p e in omega (arith, same)
    go false e rest = let above = rest e in omega (arith, above)

cell_of_none : (k : ℕ) → cell_at [] k ≡ null
cell_of_none k = refl

-- the cell at an index, counted from i
abbrev cell_from : ℕ → List Datum → Option ℕ → Datum
cell_from i cells None = null
cell_from i cells (Some p) = cell_at cells (p - i)

from_none : (i : ℕ) (o : Option ℕ) → cell_from i [] o ≡ null
from_none i None = refl
from_none i (Some p) = cell_of_none (p - i)

from_more : (i : ℕ) (d : Datum) (ds : List Datum) (o : Option ℕ) → ((p : ℕ) → o ≡ Some p → suc i ≤ p)
    → cell_from i (d ∷ ds) o ≡ cell_from (suc i) ds o
from_more i d ds None above = refl
from_more i d ds (Some p) above =
    let h = above p refl in
    let e : p - i ≡ suc (p - suc i) = omega (arith, h) in ap (cell_at (d ∷ ds)) e

stands_at : (keys : List ℕ) (cells : List Datum) (i k : ℕ)
    → cell_from i cells (place_in i keys k) ≡ representative_cell keys cells k
stands_at [] cells i k = refl
stands_at (j ∷ js) [] i k = from_none i (place_in i (j ∷ js) k)
stands_at (j ∷ js) (d ∷ ds) i k = go (j == k) (stands_at js ds (suc i) k)
  where
    go : (b : Bool) → cell_from (suc i) ds (place_in (suc i) js k) ≡ representative_cell js ds k
        → cell_from i (d ∷ ds) (if b then Some i else place_in (suc i) js k)
        ≡ (if b then d else representative_cell js ds k)
    go true rest = let e : i - i ≡ 0 = omega arith in ap (cell_at (d ∷ ds)) e
    go false rest = from_more i d ds (place_in (suc i) js k) (λ p e. place_above (suc i) js k p e) ∙ rest

pub stand_found : (keys : List ℕ) (t : List Key) (k p : ℕ) → place_in 0 keys k ≡ Some p
    → cell_at (data_of t) p ≡ representative_cell keys (data_of t) k
stand_found keys t k p h =
    let z : p - 0 ≡ p = omega arith in
    sym (ap (cell_at (data_of t)) z) ∙ ap (cell_from 0 (data_of t)) (sym h) ∙ stands_at keys (data_of t) 0 k

pub stand_null : (keys : List ℕ) (t : List Key) (k : ℕ) → place_in 0 keys k ≡ None
    → representative_cell keys (data_of t) k ≡ null
stand_null keys t k h = sym (stands_at keys (data_of t) 0 k) ∙ ap (cell_from 0 (data_of t)) h

from_more_columns : (keys : List ℕ) (cells : List Datum) (i m : ℕ)
    → representative_from keys cells i (suc m) ≡ representative_from keys cells i m ++ representative_cell keys cells (i + m) ∷ []
from_more_columns keys cells i zero = let e : i ≡ i + 0 = omega arith in ap (λ k. representative_cell keys cells k ∷ []) e
from_more_columns keys cells i (suc m) =
    let e : suc i + m ≡ i + suc m = omega arith in
    ap (λ ds. representative_cell keys cells i ∷ ds)
    (from_more_columns keys cells (suc i) m
    ∙ ap (λ k. representative_from keys cells (suc i) m ++ representative_cell keys cells k ∷ []) e)

pub stand_more : (keys : List ℕ) (t : List Key) (k : ℕ)
    → representative (k + 1) keys t ≡ representative k keys t ++ representative_cell keys (data_of t) k ∷ []
stand_more keys t k =
    let one : k + 1 ≡ suc k = omega arith in
    let z : 0 + k ≡ k = omega arith in
    ap (λ m. representative m keys t) one ∙ from_more_columns keys (data_of t) 0 k
    ∙ ap (λ j. representative k keys t ++ representative_cell keys (data_of t) j ∷ []) z

pub ruleset representative_laws = (stand_found, stand_null, stand_more)
