-- The cells of one column of some rows.
use Rattle.std.proofs.Common.{
  ◌≡◌,
  ℕ,
  zero,
  suc,
  ◌+◌,
  ◌-◌,
  ◌<◌,
  ◌≤◌,
  List,
  [],
  ◌∷◌,
  ◌++◌,
  length,
  get_or,
  take,
  drop,
  Ok,
  Some,
  slice_get,
  refl,
  ap,
  sym,
  subst,
  ◌∙◌,
  arith,
  append_assoc,
  append-nil,
  All,
}
use Rattle.std.specs.Prelude.{map}
use Rattle.std.proofs.lemmas.List.{drop_more, get_or-map, length-map, map-append}
use Rattle.std.proofs.lemmas.List.Elements.{All-get_or}
use Rattle.std.proofs.lemmas.Option.{get_or_from_slice_get}
use Rattle.values.specs.Datum.{Datum, null}
use Rattle.values.specs.Reading.{Reading, IsValid}
use Rattle.values.specs.Rose.{Rose}
use Rattle.values.proofs.Readings.{valid_Ok}
use Rattle.array_layout.specs.declared.array.ArrayData.{ArrayData}
use Rattle.array_layout.specs.Cells.{cell, cells, len_of}
use Rattle.arrays.specs.Checked.{CheckedColumn, valid_of}
use Rattle.arrays.proofs.ColumnCells.{cells-length, cell-valid, cell-stands}
use Rattle.schema_meta.specs.Rows.{rows_from, rows_in, row_at}
use Rattle.body_writer.specs.Slots.{part}
use Rattle.body_writer.specs.Batch.{row_cell, row_cells}
use Rattle.body_writer.proofs.Cells.{listed-items_of}
use Rattle.body_writer.specs.Runs.{cell_in, slots}
use Rattle.body_writer.specs.declared.from_columns.batch.RowRange.{RowRange}
use Rattle.std.proofs.lemmas.List.Elements.{All-append, All-cons, All-nil, All-weaker}
use Rattle.std.proofs.lemmas.List.Concat.{flat_map-append}
use Rattle.body_writer.specs.declared.from_columns.segment.Segment.{Segment}
use Rattle.body_writer.specs.Segments.{segment_cells, segments_cells}
use Rattle.body_writer.specs.RowRanges.{cells_in, range_rows, ranges_rows, column_in, IsRange, HasColumn}

cells-good : (b : List ℕ) (t : Rose ArrayData) (ds : List Datum) → cells b t ≡ Ok ds → IsValid (cells b t)
cells-good b t ds is = subst (λ (m : Reading (List Datum)). IsValid m) (sym is) tt

pub cells-long : (b : List ℕ) (t : Rose ArrayData) (ds : List Datum) → cells b t ≡ Ok ds → length ds ≡ len_of t
cells-long b t ds is = sym (ap (λ m. length (valid_of m)) is) ∙ cells-length b t (cells-good b t ds is)

pub cell-good : (b : List ℕ) (t : Rose ArrayData) (ds : List Datum) (k : ℕ) → cells b t ≡ Ok ds → k < len_of t
    → IsValid (cell b t k)
cell-good b t ds k is below = cell-valid b t k (cells-good b t ds is) below

-- a cell of a column is what its slot holds
cell-there : (b : List ℕ) (t : Rose ArrayData) (ds : List Datum) (k : ℕ) → cells b t ≡ Ok ds → k < length ds
    → cell_in (cell b t k) ≡ get_or ds k null
cell-there b t ds k is below =
    let size = cells-long b t ds is in
    let within : k < len_of t = omega (arith, below, size) in
    let valid = cells-good b t ds is in
    let read = valid_Ok (cell b t k) (cell-valid b t k valid within) in
    let stands = ap (λ m. slice_get (valid_of m) k) (sym is) ∙ cell-stands b t k read.0 valid within read.1 in
    ap cell_in read.1 ∙ sym (get_or_from_slice_get ds k read.0 null stands)

slots-are : (read : ℕ → Reading Datum) (ds : List Datum) (i n : ℕ) → ((k : ℕ) → k < length ds
    → cell_in (read k) ≡ get_or ds k null)
    → i + n ≤ length ds → slots read i n ≡ take n (drop i ds)
unfolding slots
slots-are read ds i zero same room = refl
slots-are read ds i (suc n) same room =
    let inside : i < length ds = omega (arith, room) in
    let rest = slots-are read ds (i + 1) n same (omega (arith, room)) in
    rw (same i inside, rest) (sym (ap (take (suc n)) (drop_more ds i null inside)))

pub column-slots : (b : List ℕ) (t : Rose ArrayData) (ds : List Datum) (i n : ℕ) → cells b t ≡ Ok ds → i + n ≤ length ds
    → slots (cell b t) i n ≡ take n (drop i ds)
column-slots b t ds i n is room = slots-are (cell b t) ds i n (λ k below. cell-there b t ds k is below) room

-- column j of rows

part-at : (columns : List (List Datum)) (i j : ℕ) → j < length columns
    → part j (row_cell (row_at columns i)) ≡ get_or (get_or columns j []) i null
part-at columns i j h =
    ap (λ ds. get_or ds j null) (listed-items_of (row_at columns i))
    ∙ get_or-map (λ c. get_or c i null) columns j [] null h

pub rows-column : (columns : List (List Datum)) (i n j : ℕ) (ds : List Datum) → j < length columns
    → get_or columns j [] ≡ ds
    → i + n ≤ length ds → map (part j) (row_cells (rows_from columns i n)) ≡ take n (drop i ds)
unfolding rows_from
rows-column columns i zero j ds h e room = refl
rows-column columns i (suc n) j ds h e room =
    let inside : i < length ds = omega (arith, room) in
    let rest = rows-column columns (i + 1) n j ds h e (omega (arith, room)) in
    let here = part-at columns i j h ∙ ap (λ c. get_or c i null) e in
    rw (here, rest) (sym (ap (take (suc n)) (drop_more ds i null inside)))

pub rows-dropped : (columns : List (List Datum)) (at i n : ℕ) → i ≤ n
    → drop i (rows_from columns at n) ≡ rows_from columns (at + i) (n - i)
unfolding rows_from
rows-dropped columns at zero n h =
    let a : at ≡ at + 0 = omega arith in
    let b : n ≡ n - 0 = omega arith in
    ap (λ k. rows_from columns k n) a ∙ ap (rows_from columns (at + 0)) b
rows-dropped columns at (suc i) zero h = absurd (omega (arith, h))
rows-dropped columns at (suc i) (suc n) h =
    let a : at + 1 + i ≡ at + suc i = omega arith in
    let b : n - i ≡ suc n - suc i = omega arith in
    rows-dropped columns (at + 1) i n (omega (arith, h)) ∙ ap (λ k. rows_from columns k (n - i)) a
    ∙ ap (rows_from columns (at + suc i)) b

pub rows-taken : (columns : List (List Datum)) (at m n : ℕ) → m ≤ n
    → take m (rows_from columns at n) ≡ rows_from columns at m
unfolding rows_from
rows-taken columns at zero n h = refl
rows-taken columns at (suc m) zero h = absurd (omega (arith, h))
rows-taken columns at (suc m) (suc n) h = ap (λ rs. row_at columns at ∷ rs) (rows-taken columns (at + 1) m n (omega
    (arith, h)))

pub rows-cut : (columns : List (List Datum)) (i n all : ℕ) → i + n ≤ all
    → take n (drop i (rows_in all columns)) ≡ rows_from columns i n
rows-cut columns i n all h =
    let a : 0 + i ≡ i = omega arith in
    ap (take n) (rows-dropped columns 0 i all (omega (arith, h)) ∙ ap (λ k. rows_from columns k (all - i)) a)
    ∙ rows-taken columns i n (all - i) (omega (arith, h))

-- the cells of a checked column in some rows of its batch
pub range-column :
    (columns : List CheckedColumn) (j from to all : ℕ) (c : CheckedColumn) → j < length columns → c ≡ get_or columns j c
    → length c.cells ≡ all → from ≤ to → to ≤ all
    → map (part j) (row_cells (take (to - from) (drop from (rows_in all (cells_in columns))))) ≡ take (to - from) (drop
    from c.cells)
range-column columns j from to all c h e size order within =
    let items : CheckedColumn → List Datum = λ x. x.cells in
    let room : from + (to - from) ≤ all = omega (arith, order, within) in
    let many = length-map columns items in
    let here : get_or (cells_in columns) j [] ≡ c.cells = get_or-map items columns j c [] h ∙ ap items (sym e) in
    ap (λ rs. map (part j) (row_cells rs)) (rows-cut (cells_in columns) from (to - from) all room)
    ∙ rows-column (cells_in columns) from (to - from) j c.cells (omega (arith, h, many)) here (omega (
      arith,
      room,
      size,
    ))

pub column-long : (columns : List CheckedColumn) (j all : ℕ) (c : CheckedColumn) → j < length columns
    → c ≡ get_or columns j c
    → All (λ (x : CheckedColumn). length x.cells ≡ all) columns → length c.cells ≡ all
column-long columns j all c h e long =
    let P : CheckedColumn → Type 0 = λ x. length x.cells ≡ all in
    subst P (sym e) (All-get_or P columns j c h long)

-- range after range

column-append : (j : ℕ) (xs ys : List (List Datum)) → map (part j) (row_cells (xs ++ ys)) ≡ map (part j) (row_cells xs)
    ++ map (part j) (row_cells ys)
column-append j xs ys = ap (map (part j)) (map-append row_cell xs ys)
    ∙ map-append (part j) (row_cells xs) (row_cells ys)

pub column-split : (j : ℕ) (rs : List RowRange) (i : ℕ) (r : RowRange) → i < length rs → r ≡ get_or rs i r
    → column_in j (drop i rs) ≡ map (part j) (row_cells (range_rows r)) ++ column_in j (drop (i + 1) rs)
column-split j rs i r h e =
    ap (column_in j) (drop_more rs i r h)
    ∙ ap (λ q. map (part j) (row_cells (range_rows q ++ ranges_rows (drop (i + 1) rs)))) (sym e)
    ∙ column-append j (range_rows r) (ranges_rows (drop (i + 1) rs))

pub column-step : (j : ℕ) (rs : List RowRange) (i : ℕ) (r : RowRange) (made next total : List Datum) → i < length rs
    → r ≡ get_or rs i r
    → next ≡ made ++ map (part j) (row_cells (range_rows r)) → made ++ column_in j (drop i rs) ≡ total
    → next ++ column_in j (drop (i + 1) rs) ≡ total
column-step j rs i r made next total h e n is =
    let here = map (part j) (row_cells (range_rows r)) in
    ap (λ xs. xs ++ column_in j (drop (i + 1) rs)) n ∙ append_assoc made here (column_in j (drop (i + 1) rs))
    ∙ ap (λ xs. made ++ xs) (sym (column-split j rs i r h e)) ∙ is

-- cell after cell

pub values-step : (ds : List Datum) (i to : ℕ) (d : Datum) (made next total : List Datum) → i < to → to ≤ length ds
    → slice_get ds i ≡ Some d → next ≡ made ++ d ∷ [] → made ++ take (to - i) (drop i ds) ≡ total
    → next ++ take (to - (i + 1)) (drop (i + 1) ds) ≡ total
values-step ds i to d made next total h room there n is =
    let rest = take (to - (i + 1)) (drop (i + 1) ds) in
    let more : to - i ≡ suc (to - (i + 1)) = omega (arith, h) in
    let split : take (to - i) (drop i ds) ≡ d ∷ rest =
    ap (λ k. take k (drop i ds)) more ∙ ap (take (suc (to - (i + 1)))) (drop_more ds i d (omega (arith, h, room)))
    ∙ ap (λ x. x ∷ rest) (get_or_from_slice_get ds i d d there) in
    ap (λ xs. xs ++ rest) n ∙ append_assoc made (d ∷ []) rest ∙ ap (λ xs. made ++ xs) (sym split) ∙ is

-- one more segment

pub all-more : (P : Segment → Type 0) (ps : List Segment) (p : Segment) → All P ps → P p → All P (ps ++ p ∷ [])
all-more P ps p all one = All-append P ps (p ∷ []) all (All-cons P p [] one (All-nil P))

pub segments-more : (ps : List Segment) (p : Segment) → segments_cells (ps ++ p ∷ []) ≡ segments_cells ps ++ segment_cells p
segments-more ps p = flat_map-append segment_cells ps (p ∷ [])
    ∙ ap (λ cs. segments_cells ps ++ cs) (append-nil (segment_cells p))

pub all-columns : (n j : ℕ) (rs : List RowRange) → j < n → All (IsRange n) rs → All (HasColumn j) rs
all-columns n j rs h all = All-weaker (IsRange n) (HasColumn j) has rs all where
  has : (r : RowRange) → IsRange n r → HasColumn j r
  has r is = let many = is.sized.columns in record {
    below = omega (arith, many, h);
    cells = is.sized.cells;
    order = is.order;
    within = is.within;
  }
