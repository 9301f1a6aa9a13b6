-- Columns of rows that are picked.
use Rattle.std.proofs.Common.{◌≡◌, ℕ, zero, suc, ◌+◌, ◌<◌, List, [], ◌∷◌, All, length, get_or, refl, ap, ap₂, sym, subst, ◌∙◌, arith}
use Rattle.std.specs.Prelude.{map}
use Rattle.std.proofs.lemmas.List.{get_or-map}
use Rattle.values.specs.Datum.{Datum, null}
use Rattle.schema_meta.specs.Rows.{row_at, rows_from}
use Rattle.body_writer.specs.Slots.{part}
use Rattle.body_writer.specs.Batch.{row_cell, row_cells}
use Rattle.body_writer.proofs.Cells.{listed-items_of}
use Rattle.body_writer.specs.RowRanges.{HasColumn, column_in, ranges_rows}
use Rattle.body_writer.specs.Picked.{HaveColumns, picked, picked_rows}
use Rattle.body_writer.specs.declared.from_columns.batch.RowRange.{RowRange}
use Rattle.body_writer.proofs.RowRangeLemmas.{all-columns}

picked-part : (columns : List ℕ) (row : List Datum) (j k : ℕ) → j < length columns → k ≡ get_or columns j 0
    → part k (row_cell row) ≡ part j (row_cell (picked columns row))
picked-part columns row j k h e =
    let at : ℕ → Datum = λ i. get_or row i null in
    ap (λ ds. get_or ds k null) (listed-items_of row) ∙ ap at e ∙ sym (get_or-map at columns j 0 null h)
    ∙ sym (ap (λ ds. get_or ds j null) (listed-items_of (picked columns row)))

pub parts-picked : (columns : List ℕ) (rows : List (List Datum)) (j k : ℕ) → j < length columns → k ≡ get_or columns j 0
    → map (part k) (row_cells rows) ≡ map (part j) (row_cells (picked_rows columns rows))
parts-picked columns [] j k h e = refl
parts-picked columns (row ∷ rows) j k h e =
    ap₂ (λ c cs. c ∷ cs) (picked-part columns row j k h e) (parts-picked columns rows j k h e)

-- column k of the rows is column j of the picked ones
pub picked-column : (columns : List ℕ) (ranges : List RowRange) (j k : ℕ) → j < length columns
    → k ≡ get_or columns j 0
    → column_in k ranges ≡ map (part j) (row_cells (picked_rows columns (ranges_rows ranges)))
picked-column columns ranges j k h e = parts-picked columns (ranges_rows ranges) j k h e

pub picked-there : (n : ℕ) (columns : List ℕ) (ranges : List RowRange) (j k : ℕ) → HaveColumns n columns ranges
    → j < length columns → k ≡ get_or columns j 0 → All (HasColumn k) ranges
picked-there n columns ranges j k have h e =
    let P : ℕ → Type 0 = λ i. i < n in
    all-columns n k ranges (subst P (sym e) (have.below j 0 h)) have.ranges

-- rows by number

pub rows-at : (cells : List (List Datum)) (i n m : ℕ) (d : List Datum) → m < n
    → get_or (rows_from cells i n) m d ≡ row_at cells (i + m)
unfolding rows_from
rows-at cells i zero m d below = absurd (omega (arith, below))
rows-at cells i (suc n) zero d below = let e : i ≡ i + 0 = omega arith in ap (row_at cells) e
rows-at cells i (suc n) (suc m) d below =
    let e : (i + 1) + m ≡ i + suc m = omega arith in
    rows-at cells (i + 1) n m d (omega (arith, below)) ∙ ap (row_at cells) e
