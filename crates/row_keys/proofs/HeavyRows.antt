-- Whether one of some rows is heavy, by what is known of them; and the same by layouts that are alike.
use Rattle.std.proofs.Common.{◌≡◌, inl, inr, ℕ, zero, suc, true, false, ◌||◌, List, [], ◌∷◌, ◌+◌, ◌<◌, ◌≤◌, refl, ap, sym, subst, ◌∙◌, arith}
use Rattle.std.specs.Prelude.{nat_lt}
use Rattle.std.proofs.lemmas.Bool.{le-ltb}
use Rattle.values.specs.Limits.{max_cell_weight, max_row_weight}
use Rattle.values.specs.Datum.{Datum, items_of}
use Rattle.values.specs.Layouts.{row_weight, weight}
use Rattle.values.specs.Rose.{Roses, more, none}
use Rattle.values.specs.declared.layout.Layout.{Layout}
use Rattle.schema_meta.specs.Rows.{row_at, rows_from, rows_in}
use Rattle.body_writer.specs.Heavy.{AreLightCells, AreLightUpTo, HasHeavyCell, HasHeavyRow, IsHeavy, IsLight}
use Rattle.view_lang.specs.Causes.{any_heavy, has_heavy_cell, is_heavy}
use Rattle.row_keys.specs.Batches.{AreAlike}
use Rattle.row_keys.proofs.KeyFacts.{or_left, or_none, or_right}

is_over : (m n : ℕ) → m < n → nat_lt m n ≡ true
is_over m n h = grind (arith, h)

cell_heavy : (ls : Roses Layout) (row : List Datum) → HasHeavyCell ls row → has_heavy_cell ls row ≡ true
unfolding has_heavy_cell
cell_heavy none row h = absurd h
cell_heavy (more t ts) [] h = absurd h
cell_heavy (more t ts) (c ∷ cs) (inl h) =
    or_left (nat_lt max_cell_weight (weight t c)) (has_heavy_cell ts cs) (is_over max_cell_weight (weight t c) h)
cell_heavy (more t ts) (c ∷ cs) (inr h) =
    or_right (nat_lt max_cell_weight (weight t c)) (has_heavy_cell ts cs) (cell_heavy ts cs h)

row_heavy : (ls : Roses Layout) (row : List Datum) → IsHeavy ls row → is_heavy ls row ≡ true
unfolding is_heavy
row_heavy ls row (inl h) =
    or_right (nat_lt max_row_weight (row_weight ls (items_of row))) (has_heavy_cell ls row) (cell_heavy ls row h)
row_heavy ls row (inr h) =
    or_left (nat_lt max_row_weight (row_weight ls (items_of row))) (has_heavy_cell ls row)
    (is_over max_row_weight (row_weight ls (items_of row)) h)

cells_light : (ls : Roses Layout) (row : List Datum) → AreLightCells ls row → has_heavy_cell ls row ≡ false
unfolding has_heavy_cell
cells_light none row h = refl
cells_light (more t ts) [] h = refl
cells_light (more t ts) (c ∷ cs) h =
    or_none (nat_lt max_cell_weight (weight t c)) (has_heavy_cell ts cs) (le-ltb max_cell_weight (weight t c) h.0)
    (cells_light ts cs h.1)

row_light : (ls : Roses Layout) (row : List Datum) → IsLight ls row → is_heavy ls row ≡ false
unfolding is_heavy
row_light ls row h =
    or_none (nat_lt max_row_weight (row_weight ls (items_of row))) (has_heavy_cell ls row)
    (le-ltb max_row_weight (row_weight ls (items_of row)) h.whole) (cells_light ls row h.cells)

some_from :
    (ls : Roses Layout) (cs : List (List Datum)) (i k n : ℕ) → k < n → IsHeavy ls (row_at cs (i + k))
    → any_heavy ls (rows_from cs i n) ≡ true
unfolding rows_from any_heavy
some_from ls cs i k zero below heavy = absurd (omega (arith, below))
some_from ls cs i zero (suc n) below heavy =
    let P : ℕ → Type 0 = λ m. IsHeavy ls (row_at cs m) in
    let here : i + 0 ≡ i = omega arith in
    or_left (is_heavy ls (row_at cs i)) (any_heavy ls (rows_from cs (i + 1) n))
    (row_heavy ls (row_at cs i) (subst P here heavy))
some_from ls cs i (suc k) (suc n) below heavy =
    let P : ℕ → Type 0 = λ m. IsHeavy ls (row_at cs m) in
    let next : i + suc k ≡ (i + 1) + k = omega arith in
    or_right (is_heavy ls (row_at cs i)) (any_heavy ls (rows_from cs (i + 1) n))
    (some_from ls cs (i + 1) k n (omega (arith, below)) (subst P next heavy))

none_from :
    (ls : Roses Layout) (cs : List (List Datum)) (i n : ℕ)
    → ((k : ℕ) → i ≤ k → k < i + n → IsLight ls (row_at cs k)) → any_heavy ls (rows_from cs i n) ≡ false
unfolding rows_from any_heavy
none_from ls cs i zero light = refl
none_from ls cs i (suc n) light =
    or_none (is_heavy ls (row_at cs i)) (any_heavy ls (rows_from cs (i + 1) n))
    (row_light ls (row_at cs i) (light i (omega arith) (omega arith)))
    (none_from ls cs (i + 1) n (λ k from below. light k (omega (arith, from)) (omega (arith, below))))

pub some_heavy : (ls : Roses Layout) (cs : List (List Datum)) (n : ℕ) → HasHeavyRow ls cs n
    → true ≡ any_heavy ls (rows_in n cs)
some_heavy ls cs n h =
    let P : ℕ → Type 0 = λ m. IsHeavy ls (row_at cs m) in
    let from : h.0 ≡ 0 + h.0 = omega arith in
    sym (some_from ls cs 0 h.0 n h.1 (subst P from h.2))

pub none_heavy : (ls : Roses Layout) (cs : List (List Datum)) (n most : ℕ) → AreLightUpTo ls cs n most
    → false ≡ any_heavy ls (rows_in n cs)
none_heavy ls cs n most h =
    sym (none_from ls cs 0 n (λ k from below. (h k (omega (arith, below))).0))

-- the same by layouts that are alike

alike_weight : (ts us : Roses Layout) (row : List Datum) → AreAlike ts us
    → row_weight ts (items_of row) ≡ row_weight us (items_of row)
alike_weight none none row alike = refl
alike_weight none (more u us) row alike = absurd alike
alike_weight (more t ts) none row alike = absurd alike
alike_weight (more t ts) (more u us) [] alike = refl
alike_weight (more t ts) (more u us) (d ∷ ds) alike = let a = alike.0.weighs d in
    let b = alike_weight ts us ds alike.1 in omega (arith, a, b)

alike_cell : (ts us : Roses Layout) (row : List Datum) → AreAlike ts us → has_heavy_cell ts row ≡ has_heavy_cell us row
unfolding has_heavy_cell
alike_cell none none row alike = refl
alike_cell none (more u us) row alike = absurd alike
alike_cell (more t ts) none row alike = absurd alike
alike_cell (more t ts) (more u us) [] alike = refl
alike_cell (more t ts) (more u us) (d ∷ ds) alike =
    ap (λ w. nat_lt max_cell_weight w || has_heavy_cell ts ds) (alike.0.weighs d)
    ∙ ap (λ b. nat_lt max_cell_weight (weight u d) || b) (alike_cell ts us ds alike.1)

alike_heavy : (ts us : Roses Layout) (row : List Datum) → AreAlike ts us → is_heavy ts row ≡ is_heavy us row
unfolding is_heavy
alike_heavy ts us row alike =
    ap (λ w. nat_lt max_row_weight w || has_heavy_cell ts row) (alike_weight ts us row alike)
    ∙ ap (λ b. nat_lt max_row_weight (row_weight us (items_of row)) || b) (alike_cell ts us row alike)

pub alike_any : (ts us : Roses Layout) (rows : List (List Datum)) → AreAlike ts us
    → any_heavy ts rows ≡ any_heavy us rows
unfolding any_heavy
alike_any ts us [] alike = refl
alike_any ts us (r ∷ rs) alike =
    ap (λ b. b || any_heavy ts rs) (alike_heavy ts us r alike) ∙ ap (λ b. is_heavy us r || b) (alike_any ts us rs alike)
