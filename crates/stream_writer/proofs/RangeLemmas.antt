-- Rows that lie in ranges.
use Rattle.std.proofs.Common.{
  ◌≡◌,
  ℕ,
  zero,
  suc,
  ◌+◌,
  ◌-◌,
  ◌<◌,
  ◌≤◌,
  List,
  [],
  ◌∷◌,
  ◌++◌,
  All,
  length,
  get_or,
  take,
  drop,
  refl,
  ap,
  sym,
  subst,
  ◌∙◌,
  append_assoc,
  append-nil,
  arith,
  length-drop,
}
use Rattle.std.specs.Prelude.{map}
use Rattle.std.proofs.lemmas.List.{drop-drop, drop-map, drop-take, drop_all, drop_more, get_or-map, length-map, length-take, map-append, take-map, take_more}
use Rattle.std.proofs.lemmas.List.Elements.{All-append, All-cons, All-from_get_or, All-get_or, All-head, All-nil, All-tail, All-weaker}
use Rattle.values.specs.Datum.{Datum, items_of, null}
use Rattle.values.specs.Layouts.{HoldsEach}
use Rattle.values.specs.Logical.{NamedType}
use Rattle.values.specs.Rose.{Rose, Roses}
use Rattle.values.specs.declared.layout.Layout.{Layout}
use Rattle.arrays.specs.Checked.{CheckedColumn}
use Rattle.schema_meta.specs.Rows.{row_at, rows_from}
use Rattle.body_writer.specs.RowRanges.{IsRange, batch_rows, cells_in, range_rows, ranges_rows}
use Rattle.body_writer.specs.Picked.{picked, picked_rows}
use Rattle.body_writer.specs.declared.from_columns.batch.RowRange.{RowRange}
use Rattle.body_writer.proofs.RowRangeLemmas.{rows-cut}
use Rattle.body_writer.proofs.PickedLemmas.{rows-at}
use Rattle.stream_writer.specs.RangeRows.{HoldRows}
use Rattle.stream_writer.specs.Stream.{trees}
use Rattle.stream_writer.specs.Table.{IsRow}
use Rattle.stream_writer.proofs.BatchRowLemmas.{batch-long}

pub range-at : (n : ℕ) (rs : List RowRange) (i : ℕ) (r : RowRange) → i < length rs → r ≡ get_or rs i r
    → All (IsRange n) rs → IsRange n r
range-at n rs i r h e all = subst (IsRange n) (sym e) (All-get_or (IsRange n) rs i r h all)

pub range-long : (n : ℕ) (r : RowRange) → IsRange n r → length (range_rows r) ≡ r.to - r.from
range-long n r is =
    let size = batch-long r.batch.now in
    let cut = length-take (r.to - r.from) (drop r.from (batch_rows r.batch.now)) in
    let behind = length-drop r.from (batch_rows r.batch.now) in
    let order = is.order in
    let within = is.within in
    omega (arith, size, cut, behind, order, within)

-- a part of a range

take-fewer : {A : Type 0} (a b : ℕ) (xs : List A) → a ≤ b → take a (take b xs) ≡ take a xs
take-fewer zero b xs le = refl
take-fewer (suc a) zero xs le = absurd (omega (arith, le))
take-fewer (suc a) (suc b) [] le = refl
take-fewer (suc a) (suc b) (x ∷ xs) le = ap (λ ys. x ∷ ys) (take-fewer a b xs (omega (arith, le)))

pub part-rows :
    (r p : RowRange) (start to : ℕ) → p.batch ≡ r.batch → p.from ≡ r.from + start → p.to ≡ r.from + to
    → start < to → to ≤ r.to - r.from → range_rows p ≡ take (to - start) (drop start (range_rows r))
part-rows r p start to batch from end some within =
    let X : List (List Datum) = batch_rows r.batch.now in
    let n : ℕ = r.to - r.from in
    let rest : ℕ = n - start in
    let whole : start + rest ≡ n = omega (arith, some, within) in
    let size : p.to - p.from ≡ to - start = omega (arith, from, end) in
    let cut : drop start (take n (drop r.from X)) ≡ take rest (drop start (drop r.from X)) =
    ap (λ k. drop start (take k (drop r.from X))) (sym whole) ∙ drop-take start rest (drop r.from X) in
    ap (λ b. take (p.to - p.from) (drop p.from (batch_rows b.now))) batch
    ∙ ap (λ k. take k (drop p.from X)) size ∙ ap (λ k. take (to - start) (drop k X)) from
    ∙ ap (take (to - start)) (sym (drop-drop start r.from X))
    ∙ sym (take-fewer (to - start) rest (drop start (drop r.from X)) (omega (arith, whole, within, some)))
    ∙ ap (take (to - start)) (sym cut)

pub part-range :
    (n : ℕ) (r p : RowRange) (start to : ℕ) → p.batch ≡ r.batch → p.from ≡ r.from + start → p.to ≡ r.from + to
    → start < to → to ≤ r.to - r.from → IsRange n r → IsRange n p
part-range n r p start to batch from end some within is =
    let order = is.order in
    let high = is.within in
    let rows = ap (λ b. b.now.rows) batch in
    record {
      sized = rw batch is.sized;
      order = omega (arith, from, end, some);
      within = omega (arith, from, end, within, order, high, rows);
    }

-- rows of some columns

pub picked-taken : (columns : List ℕ) (n : ℕ) (rows : List (List Datum))
    → take n (picked_rows columns rows) ≡ picked_rows columns (take n rows)
picked-taken columns n rows = take-map (picked columns) n rows

pub picked-dropped : (columns : List ℕ) (n : ℕ) (rows : List (List Datum))
    → drop n (picked_rows columns rows) ≡ picked_rows columns (drop n rows)
picked-dropped columns n rows = drop-map (picked columns) n rows

pub picked-long : (columns : List ℕ) (rows : List (List Datum)) → length (picked_rows columns rows) ≡ length rows
picked-long columns rows = length-map rows (picked columns)

-- the rows of a range by number

pub range-rows : (n : ℕ) (r : RowRange) → IsRange n r
    → range_rows r ≡ rows_from (cells_in r.batch.now.columns.items) r.from (r.to - r.from)
range-rows n r is =
    let order = is.order in
    let within = is.within in
    rows-cut (cells_in r.batch.now.columns.items) r.from (r.to - r.from) r.batch.now.rows (omega (arith, order, within))

row-in : (n : ℕ) (r : RowRange) (m : ℕ) → IsRange n r → m < r.to - r.from
    → get_or (range_rows r) m [] ≡ row_at (cells_in r.batch.now.columns.items) (r.from + m)
row-in n r m is below =
    ap (λ xs. get_or xs m []) (range-rows n r is)
    ∙ rows-at (cells_in r.batch.now.columns.items) r.from (r.to - r.from) m [] below

-- what holds of all picked rows of a range holds of each, and the other way round
pub each-row :
    (P : List Datum → Type 0) (n : ℕ) (columns : List ℕ) (r : RowRange) → IsRange n r
    → All P (picked_rows columns (range_rows r)) → (k : ℕ) → r.from ≤ k → k < r.to
    → P (picked columns (row_at (cells_in r.batch.now.columns.items) k))
each-row P n columns r is all k low high =
    let m : ℕ = k - r.from in
    let e : r.from + m ≡ k = omega (arith, low) in
    let long = range-long n r is in
    let many = picked-long columns (range_rows r) in
    let inside : m < length (range_rows r) = omega (arith, long, low, high) in
    let here : get_or (picked_rows columns (range_rows r)) m [] ≡ picked columns (row_at (cells_in r.batch.now.columns.items) k) =
    get_or-map (picked columns) (range_rows r) m [] [] inside
    ∙ ap (picked columns) (row-in n r m is (omega (arith, low, high)) ∙ ap (row_at (cells_in r.batch.now.columns.items)) e) in
    subst P here (All-get_or P (picked_rows columns (range_rows r)) m [] (omega (arith, inside, many)) all)

pub all-rows :
    (P : List Datum → Type 0) (n : ℕ) (columns : List ℕ) (r : RowRange) → IsRange n r
    → ((k : ℕ) → r.from ≤ k → k < r.to → P (picked columns (row_at (cells_in r.batch.now.columns.items) k)))
    → All P (picked_rows columns (range_rows r))
all-rows P n columns r is each =
    let long = range-long n r is in
    let many = picked-long columns (range_rows r) in
    All-from_get_or P (picked_rows columns (range_rows r)) []
    (λ m below.
    let inside : m < length (range_rows r) = omega (arith, below, many) in
    let here : picked columns (row_at (cells_in r.batch.now.columns.items) (r.from + m)) ≡ get_or (picked_rows columns (range_rows r)) m [] =
    sym (get_or-map (picked columns) (range_rows r) m [] [] inside
    ∙ ap (picked columns) (row-in n r m is (omega (arith, inside, long)))) in
    subst P here (each (r.from + m) (omega arith) (omega (arith, inside, long))))

-- and the same of ranges

all-split : {X : Type 0} (P : X → Type 0) (xs ys : List X) → All P (xs ++ ys) → All P xs × All P ys
all-split P [] ys all = (All-nil P, all)
all-split P (x ∷ xs) ys all =
    let rest = all-split P xs ys (All-tail P x (xs ++ ys) all) in
    (All-cons P x xs (All-head P x (xs ++ ys) all) rest.0, rest.1)

picked-more : (columns : List ℕ) (r : RowRange) (rs : List RowRange)
    → picked_rows columns (ranges_rows (r ∷ rs)) ≡ picked_rows columns (range_rows r) ++ picked_rows columns (ranges_rows rs)
picked-more columns r rs = map-append (picked columns) (range_rows r) (ranges_rows rs)

pub each-range :
    (P : List Datum → Type 0) (columns : List ℕ) (rs : List RowRange) (i : ℕ) (r : RowRange) → i < length rs
    → r ≡ get_or rs i r → All P (picked_rows columns (ranges_rows rs)) → All P (picked_rows columns (range_rows r))
each-range P columns [] i r below e all = absurd (omega (arith, below))
each-range P columns (q ∷ rs) zero r below e all =
    let A : List (List Datum) → Type 0 = All P in
    let B : RowRange → Type 0 = λ x. All P (picked_rows columns (range_rows x)) in
    subst B (sym e)
    (all-split P (picked_rows columns (range_rows q)) (picked_rows columns (ranges_rows rs))
    (subst A (picked-more columns q rs) all)).0
each-range P columns (q ∷ rs) (suc i) r below e all =
    let A : List (List Datum) → Type 0 = All P in
    each-range P columns rs i r (omega (arith, below)) e
    (all-split P (picked_rows columns (range_rows q)) (picked_rows columns (ranges_rows rs))
    (subst A (picked-more columns q rs) all)).1

pub all-ranges :
    (P : List Datum → Type 0) (columns : List ℕ) (rs : List RowRange)
    → All (λ r. All P (picked_rows columns (range_rows r))) rs → All P (picked_rows columns (ranges_rows rs))
all-ranges P columns [] all = All-nil P
all-ranges P columns (r ∷ rs) all =
    let A : List (List Datum) → Type 0 = All P in
    let B : RowRange → Type 0 = λ x. All P (picked_rows columns (range_rows x)) in
    subst A (sym (picked-more columns r rs))
    (All-append P (picked_rows columns (range_rows r)) (picked_rows columns (ranges_rows rs)) (All-head B r rs all)
    (all-ranges P columns rs (All-tail B r rs all)))

-- copies of rows, one after the other

pub copied-more :
    (columns : List ℕ) (cells : List (List Datum)) (i to : ℕ) (row : List Datum) (made next whole : List (List Datum))
    → i < to → row ≡ picked columns (row_at cells i) → next ≡ made ++ row ∷ []
    → made ++ picked_rows columns (rows_from cells i (to - i)) ≡ whole
    → next ++ picked_rows columns (rows_from cells (i + 1) (to - (i + 1))) ≡ whole
unfolding rows_from
copied-more columns cells i to row made next whole below is grown all =
    let rest : List (List Datum) = picked_rows columns (rows_from cells (i + 1) (to - (i + 1))) in
    let more : to - i ≡ suc (to - (i + 1)) = omega (arith, below) in
    ap (λ xs. xs ++ rest) grown ∙ append_assoc made (row ∷ []) rest ∙ ap (λ x. made ++ x ∷ rest) is
    ∙ sym (ap (λ k. made ++ picked_rows columns (rows_from cells i k)) more) ∙ all

pub copied-end :
    (columns : List ℕ) (cells : List (List Datum)) (i to : ℕ) (made whole : List (List Datum)) → to ≤ i
    → made ++ picked_rows columns (rows_from cells i (to - i)) ≡ whole → made ≡ whole
unfolding rows_from
copied-end columns cells i to made whole all is =
    let none : to - i ≡ 0 = omega (arith, all) in
    let P : ℕ → Type 0 = λ k. made ++ picked_rows columns (rows_from cells i k) ≡ whole in
    sym (append-nil made) ∙ subst P none is

pub ranges-copied :
    (columns : List ℕ) (rs : List RowRange) (i : ℕ) (r : RowRange) (made next whole : List (List Datum))
    → i < length rs → r ≡ get_or rs i r → next ≡ made ++ picked_rows columns (range_rows r)
    → made ++ picked_rows columns (ranges_rows (drop i rs)) ≡ whole
    → next ++ picked_rows columns (ranges_rows (drop (i + 1) rs)) ≡ whole
ranges-copied columns rs i r made next whole below e grown all =
    let rest : List (List Datum) = picked_rows columns (ranges_rows (drop (i + 1) rs)) in
    let split : drop i rs ≡ r ∷ drop (i + 1) rs =
    drop_more rs i r below ∙ ap (λ x. x ∷ drop (i + 1) rs) (sym e) in
    ap (λ xs. xs ++ rest) grown ∙ append_assoc made (picked_rows columns (range_rows r)) rest
    ∙ ap (λ xs. made ++ xs) (sym (ap (λ xs. picked_rows columns (ranges_rows xs)) split ∙ picked-more columns r (drop (i + 1) rs)))
    ∙ all

pub ranges-end : (columns : List ℕ) (rs : List RowRange) (i : ℕ) (made whole : List (List Datum)) → length rs ≤ i
    → made ++ picked_rows columns (ranges_rows (drop i rs)) ≡ whole → made ≡ whole
ranges-end columns rs i made whole end all =
    sym (append-nil made) ∙ ap (λ xs. made ++ picked_rows columns (ranges_rows xs)) (sym (drop_all i rs end)) ∙ all

-- cell after cell

pub cell-copied :
    (columns : List ℕ) (i : ℕ) (row : List Datum) (d : Datum) (made next : List Datum) → i < length columns
    → d ≡ get_or row (get_or columns i 0) null → next ≡ made ++ d ∷ [] → made ≡ picked (take i columns) row
    → next ≡ picked (take (i + 1) columns) row
cell-copied columns i row d made next below is grown so_far =
    let at : ℕ → Datum = λ j. get_or row j null in
    grown ∙ ap (λ xs. xs ++ d ∷ []) so_far ∙ ap (λ x. picked (take i columns) row ++ x ∷ []) is
    ∙ sym (ap (map at) (take_more columns i 0 below) ∙ map-append at (take i columns) (get_or columns i 0 ∷ []))

-- the cell of a row in one of its columns
pub cell-of : (columns : List CheckedColumn) (j k : ℕ) (c : CheckedColumn) → j < length columns → c ≡ get_or columns j c
    → get_or (row_at (cells_in columns) k) j null ≡ get_or c.cells k null
cell-of columns j k c h e =
    let cell : CheckedColumn → Datum = λ x. get_or x.cells k null in row-cell columns j k c h ∙ ap cell (sym e)
  where
    row-cell : (cs : List CheckedColumn) (i m : ℕ) (d : CheckedColumn) → i < length cs
        → get_or (row_at (cells_in cs) m) i null ≡ get_or (get_or cs i d).cells m null
    row-cell [] i m d below = absurd (omega (arith, below))
    row-cell (x ∷ xs) zero m d below = refl
    row-cell (x ∷ xs) (suc i) m d below = row-cell xs i m d (omega (arith, below))

-- the cells of such rows are values of the columns' types
pub rows-hold : (fs : List (Rose NamedType)) (ls : Roses Layout) (rows : List (List Datum)) → ls ≡ trees fs
    → All (IsRow fs) rows → HoldRows ls rows
rows-hold fs ls rows same sound =
    let P : Roses Layout → Type 0 = λ ts. HoldRows ts rows in
    subst P (sym same)
    (All-weaker (IsRow fs) (λ (row : List Datum). HoldsEach (trees fs) (items_of row)) (λ row is. is.held) rows sound)
