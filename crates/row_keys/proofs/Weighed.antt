-- What the rows of ranges weigh, at most.
use Rattle.std.proofs.Common.{◌≡◌, ℕ, zero, suc, ◌+◌, ◌-◌, ◌^◌, ◌<◌, ◌≤◌, Bool, true, false, List, [], ◌∷◌, ◌++◌, drop, get_or, length, take, refl, ap, sym, ◌∙◌, arith, min}
use Rattle.std.specs.Prelude.{if◌then◌else◌, nat_lt}
use Rattle.std.proofs.lemmas.List.{drop_all, drop_more}
use Rattle.values.specs.Datum.{Datum}
use Rattle.values.specs.Rose.{Roses}
use Rattle.values.specs.Weights.{saturated}
use Rattle.values.specs.declared.layout.Layout.{Layout}
use Rattle.schema_meta.specs.Rows.{row_at, rows_from}
use Rattle.body_writer.specs.Batch.{row_weight, rows_weight}
use Rattle.body_writer.specs.RowRanges.{cells_in, range_rows, ranges_rows}
use Rattle.body_writer.specs.declared.from_columns.batch.RowRange.{RowRange}
use Rattle.row_keys.specs.RowsLeft.{Bounds}

pub bound_saturated : (n : ℕ) → Bounds (saturated n) n
unfolding saturated
bound_saturated n = λ low. by (nat_lt n (2 ^ 64)) refl low
  where
    by : (b : Bool) → nat_lt n (2 ^ 64) ≡ b → (if b then n else 2 ^ 64 - 1) < 2 ^ 64 - 1 → n ≤ (if b then n else 2 ^ 64 - 1)
    by true is low = omega arith
    by false is low = absurd (omega (arith, low))

-- rows from one of them on
dropped : (cells : List (List Datum)) (i m k : ℕ) → k ≤ m → drop k (rows_from cells i m) ≡ rows_from cells (i + k) (m - k)
unfolding rows_from
dropped cells i zero zero le = let n : zero ≡ zero - 0 = omega arith in ap (λ k. rows_from cells (i + 0) k) n
dropped cells i zero (suc k) le = absurd (omega (arith, le))
dropped cells i (suc m) zero le =
    let e : i ≡ i + 0 = omega arith in
    let n : suc m ≡ suc m - 0 = omega arith in
    ap (λ j. rows_from cells j (suc m)) e ∙ ap (λ k. rows_from cells (i + 0) k) n
dropped cells i (suc m) (suc k) le =
    let e : (i + 1) + k ≡ i + suc k = omega arith in
    let n : m - k ≡ suc m - suc k = omega arith in
    dropped cells (i + 1) m k (omega (arith, le)) ∙ ap (λ j. rows_from cells j (m - k)) e
    ∙ ap (λ j. rows_from cells (i + suc k) j) n

taken : (cells : List (List Datum)) (i m k : ℕ) → k ≤ m → take k (rows_from cells i m) ≡ rows_from cells i k
unfolding rows_from
taken cells i zero zero le = refl
taken cells i zero (suc k) le = absurd (omega (arith, le))
taken cells i (suc m) zero le = refl
taken cells i (suc m) (suc k) le = ap (λ rs. row_at cells i ∷ rs) (taken cells (i + 1) m k (omega (arith, le)))

pub range_is : (r : RowRange) → r.from ≤ r.to → r.to ≤ r.batch.now.rows
    → range_rows r ≡ rows_from (cells_in r.batch.now.columns.items) r.from (r.to - r.from)
range_is r order within =
    let cells = cells_in r.batch.now.columns.items in
    let e : 0 + r.from ≡ r.from = omega arith in
    ap (take (r.to - r.from)) (dropped cells 0 r.batch.now.rows r.from (omega (arith, order, within))
    ∙ ap (λ j. rows_from cells j (r.batch.now.rows - r.from)) e)
    ∙ taken cells r.from (r.batch.now.rows - r.from) (r.to - r.from) (omega (arith, within))

-- what was weighed so far, and what remains to be weighed
abbrev pub WeighedTo : ℕ → ℕ → ℕ → Type 0
WeighedTo total sum left = sum < 2 ^ 64 - 1 → total ≤ sum + left

pub weighed_first : (total left : ℕ) → total ≡ left → WeighedTo total 0 left
weighed_first total left is = λ _. omega (arith, is)

pub weighed_more : (total sum more left part rest : ℕ) → Bounds more part → left ≡ part + rest
    → WeighedTo total sum left → WeighedTo total (min (sum + more) (2 ^ 64 - 1)) rest
weighed_more total sum more left part rest bound split is = λ under.
    let whole = is (omega (arith, under)) in
    let one = bound (omega (arith, under)) in
    omega (arith, whole, one, split, under)

pub rows_split : (ls : Roses Layout) (cells : List (List Datum)) (i n m : ℕ) → n ≡ suc m
    → rows_weight ls (rows_from cells i n) ≡ row_weight ls (row_at cells i) + rows_weight ls (rows_from cells (i + 1) m)
unfolding rows_from
rows_split ls cells i n m is = ap (λ k. rows_weight ls (rows_from cells i k)) is

pub rows_none : (ls : Roses Layout) (cells : List (List Datum)) (i n : ℕ) → n ≡ 0 → rows_weight ls (rows_from cells i n) ≡ 0
unfolding rows_from
rows_none ls cells i n is = ap (λ k. rows_weight ls (rows_from cells i k)) is

pub weights_add : (ls : Roses Layout) (xs ys : List (List Datum)) → rows_weight ls (xs ++ ys) ≡ rows_weight ls xs + rows_weight ls ys
weights_add ls [] ys = omega arith
weights_add ls (x ∷ xs) ys = let rest = weights_add ls xs ys in omega (arith, rest)

pub ranges_split : (ls : Roses Layout) (rs : List RowRange) (i : ℕ) (r : RowRange) → r ≡ get_or rs i r → i < length rs
    → rows_weight ls (ranges_rows (drop i rs)) ≡ rows_weight ls (range_rows r) + rows_weight ls (ranges_rows (drop (i + 1) rs))
ranges_split ls rs i r is below =
    ap (λ xs. rows_weight ls (ranges_rows xs)) (drop_more rs i r below)
    ∙ weights_add ls (range_rows (get_or rs i r)) (ranges_rows (drop (i + 1) rs))
    ∙ ap (λ x. rows_weight ls (range_rows x) + rows_weight ls (ranges_rows (drop (i + 1) rs))) (sym is)

pub ranges_none : (ls : Roses Layout) (rs : List RowRange) (i : ℕ) → length rs ≤ i → rows_weight ls (ranges_rows (drop i rs)) ≡ 0
ranges_none ls rs i past = ap (λ xs. rows_weight ls (ranges_rows xs)) (drop_all i rs past)
