-- The columns that are written of joined rows, one by one.
use Rattle.std.proofs.Common.{◌≡◌, ℕ, zero, suc, ◌+◌, ◌<◌, ◌≤◌, List, [], ◌∷◌, ◌++◌, All, length, get_or, take, drop, refl, ap, ap₂, sym, subst, ◌∙◌, arith, append-nil, append_assoc, length-drop}
use Rattle.std.specs.Prelude.{map}
use Rattle.std.proofs.lemmas.List.{drop_all, drop_more, take_all, take_more}
use Rattle.std.proofs.lemmas.List.Elements.{All-cons, All-nil}
use Rattle.values.specs.Datum.{Datum, null}
use Rattle.values.specs.Rose.{Rose, Roses, kids_of}
use Rattle.values.specs.declared.layout.Layout.{Layout}
use Rattle.body_writer.specs.Batch.{IsBatch, row_cells}
use Rattle.body_writer.specs.Picked.{picked, picked_rows}
use Rattle.body_writer.specs.Locations.{AreFound, AreRowsOf, HaveColumn, IsWritable, MakeBatch, column_at, column_cells}
use Rattle.body_writer.specs.Slots.{part}
use Rattle.body_writer.specs.declared.from_locations.location.LocatedRows.{LocatedRows}
use Rattle.body_writer.specs.declared.from_locations.plain.BatchArrays.{BatchArrays}
use Rattle.body_writer.specs.declared.from_locations.write.LocatedColumn.{LocatedColumn}
use Rattle.body_writer.proofs.PickedLemmas.{parts-picked}
use Rattle.stream_writer.specs.JoinedRows.{AreArrays, AreArraysOf, HaveJoined, IsFirst, IsRest, half, joined_rows, place_of}
use Rattle.stream_writer.specs.PlaceRows.{FitsLocations, placed_left}
use Rattle.stream_writer.specs.declared.joined_rows.JoinedRows.{JoinedRows}
use Rattle.stream_writer.specs.declared.locate_rows.PlaceRows.{PlaceRows}
use Rattle.stream_writer.proofs.BatchRowLemmas.{light-left}
use Rattle.stream_writer.proofs.JoinedLemmas.{arrays-part, column-below, half-many, have-rest, joined-cell, joined-column, joined-first, joined-have, joined-many, joined-rest}
use Rattle.stream_writer.proofs.RangeLemmas.{picked-dropped, picked-long, picked-taken}

-- arrays of columns

pub arrays-many : (r : JoinedRows) (js : List ℕ) (ss : List BatchArrays) → AreArrays r js ss → length ss ≡ length js
arrays-many r [] [] are = refl
arrays-many r [] (s ∷ ss) are = absurd are
arrays-many r (j ∷ js) [] are = absurd are
arrays-many r (j ∷ js) (s ∷ ss) are = ap suc (arrays-many r js ss are.1)

arrays-at : (r : JoinedRows) (js : List ℕ) (ss : List BatchArrays) (i : ℕ) (s : BatchArrays) → AreArrays r js ss
    → i < length ss → s ≡ get_or ss i s → AreArraysOf r (get_or js i 0) s
arrays-at r [] [] i s are h is = absurd (omega (arith, h))
arrays-at r [] (x ∷ ss) i s are h is = absurd are
arrays-at r (j ∷ js) [] i s are h is = absurd are
arrays-at r (j ∷ js) (x ∷ ss) zero s are h is = subst (AreArraysOf r j) (sym is) are.0
arrays-at r (j ∷ js) (x ∷ ss) (suc i) s are h is = arrays-at r js ss i s are.1 (omega (arith, h)) is

array-after : (r : JoinedRows) (js : List ℕ) (ss : List BatchArrays) (j : ℕ) (s : BatchArrays) → AreArrays r js ss
    → AreArraysOf r j s → AreArrays r (js ++ j ∷ []) (ss ++ s ∷ [])
array-after r [] [] j s are one = (one, tt)
array-after r [] (x ∷ ss) j s are one = absurd are
array-after r (k ∷ js) [] j s are one = absurd are
array-after r (k ∷ js) (x ∷ ss) j s are one = (are.0, array-after r js ss j s are.1 one)

pub arrays-more : (r : JoinedRows) (columns : List ℕ) (i : ℕ) (made next : List BatchArrays) (s : BatchArrays)
    → i < length columns → AreFound (half r (get_or columns i 0)).batches.now s
    → s.column ≡ place_of r (get_or columns i 0) → next ≡ made ++ s ∷ [] → AreArrays r (take i columns) made
    → AreArrays r (take (i + 1) columns) next
arrays-more r columns i made next s h found column n so_far =
    subst (λ js. AreArrays r js next) (sym (take_more columns i 0 h))
    (subst (AreArrays r (take i columns ++ get_or columns i 0 ∷ [])) (sym n)
    (array-after r (take i columns) made (get_or columns i 0) s so_far (record { found = found; column = column })))

pub arrays-all : (r : JoinedRows) (columns : List ℕ) (i : ℕ) (made : List BatchArrays) → length columns ≤ i
    → AreArrays r (take i columns) made → AreArrays r columns made
arrays-all r columns i made end so_far = subst (λ js. AreArrays r js made) (take_all i columns end) so_far

pub found-as : (old new : LocatedRows) (s : BatchArrays) → old ≡ new → AreFound old.batches.now s
    → AreFound new.batches.now s
found-as old new s same found = subst (λ (x : LocatedRows). AreFound x.batches.now s) same found

-- columns with their arrays

pub record IsColumn (r : JoinedRows) (j : ℕ) (c : LocatedColumn) : Type 0 where
  pub writable : IsWritable c
  pub cells : map (part j) (row_cells (joined_rows r)) ≡ column_cells c

abbrev pub AreColumns : JoinedRows → List ℕ → List LocatedColumn → Type 0
AreColumns r [] [] = Unit {0}
AreColumns r (j ∷ js) (c ∷ cs) = IsColumn r j c × AreColumns r js cs
AreColumns r js cs = ⊥

one-column : (columns : List ℕ) (r : JoinedRows) (j : ℕ) (c : LocatedColumn) (have : HaveJoined columns r)
    → j < r.width + have.more → AreArraysOf r j c.arrays.now → c.rows ≡ half r j → IsColumn r j c
one-column columns r j c have below arrays rows = record {
  writable = record {
    found = subst (λ (x : LocatedRows). AreFound x.batches.now c.arrays.now) (sym rows) arrays.found;
    have = subst (λ k. HaveColumn k c.rows) (sym arrays.column)
        (subst (HaveColumn (place_of r j)) (sym rows) (joined-have columns r j have below));
  };
  cells = joined-column columns r j have ∙ sym (ap₂ column_at arrays.column rows);
}

column-after : (r : JoinedRows) (js : List ℕ) (cs : List LocatedColumn) (j : ℕ) (c : LocatedColumn)
    → AreColumns r js cs → IsColumn r j c → AreColumns r (js ++ j ∷ []) (cs ++ c ∷ [])
column-after r [] [] j c are one = (one, tt)
column-after r [] (x ∷ cs) j c are one = absurd are
column-after r (k ∷ js) [] j c are one = absurd are
column-after r (k ∷ js) (x ∷ cs) j c are one = (are.0, column-after r js cs j c are.1 one)

pub columns-more : (columns : List ℕ) (r : JoinedRows) (ss : List BatchArrays) (i : ℕ)
    (made next : List LocatedColumn) (c : LocatedColumn) → HaveJoined columns r → AreArrays r columns ss
    → i < length columns → c.arrays.now ≡ get_or ss i c.arrays.now → c.rows ≡ half r (get_or columns i 0)
    → next ≡ made ++ c ∷ [] → AreColumns r (take i columns) made → AreColumns r (take (i + 1) columns) next
columns-more columns r ss i made next c have are h array rows n so_far =
    let j : ℕ = get_or columns i 0 in
    let many = arrays-many r columns ss are in
    let one : IsColumn r j c =
    one-column columns r j c have (column-below columns r i have h)
    (arrays-at r columns ss i c.arrays.now are (omega (arith, h, many)) array) rows in
    subst (λ js. AreColumns r js next) (sym (take_more columns i 0 h))
    (subst (AreColumns r (take i columns ++ j ∷ [])) (sym n)
    (column-after r (take i columns) made j c so_far one))

pub columns-all : (r : JoinedRows) (columns : List ℕ) (i : ℕ) (made : List LocatedColumn) → length columns ≤ i
    → AreColumns r (take i columns) made → AreColumns r columns made
columns-all r columns i made end so_far = subst (λ js. AreColumns r js made) (take_all i columns end) so_far

pub columns-many : (r : JoinedRows) (js : List ℕ) (cs : List LocatedColumn) → AreColumns r js cs
    → length cs ≡ length js
columns-many r [] [] are = refl
columns-many r [] (c ∷ cs) are = absurd are
columns-many r (j ∷ js) [] are = absurd are
columns-many r (j ∷ js) (c ∷ cs) are = ap suc (columns-many r js cs are.1)

pub all-writable : (r : JoinedRows) (js : List ℕ) (cs : List LocatedColumn) → AreColumns r js cs → All IsWritable cs
all-writable r [] [] are = All-nil IsWritable
all-writable r [] (c ∷ cs) are = absurd are
all-writable r (j ∷ js) [] are = absurd are
all-writable r (j ∷ js) (c ∷ cs) are = All-cons IsWritable c cs are.0.writable (all-writable r js cs are.1)

columns-at : (r : JoinedRows) (js : List ℕ) (cs : List LocatedColumn) (i : ℕ) (c : LocatedColumn) → AreColumns r js cs
    → i < length cs → c ≡ get_or cs i c → IsColumn r (get_or js i 0) c
columns-at r [] [] i c are h is = absurd (omega (arith, h))
columns-at r [] (x ∷ cs) i c are h is = absurd are
columns-at r (j ∷ js) [] i c are h is = absurd are
columns-at r (j ∷ js) (x ∷ cs) zero c are h is = subst (IsColumn r j) (sym is) are.0
columns-at r (j ∷ js) (x ∷ cs) (suc i) c are h is = columns-at r js cs i c are.1 (omega (arith, h)) is

pub rows-of-columns : (r : JoinedRows) (columns : List ℕ) (cs : List LocatedColumn) → AreColumns r columns cs
    → AreRowsOf cs (picked_rows columns (joined_rows r))
rows-of-columns r columns cs are i c h is =
    let many = columns-many r columns cs are in
    sym (parts-picked columns (joined_rows r) i (get_or columns i 0) (omega (arith, h, many)) refl)
    ∙ (columns-at r columns cs i c are h is).cells

-- the remaining rows

pub placed-many : (columns : List ℕ) (r : JoinedRows) → HaveJoined columns r
    → length (picked_rows columns (joined_rows r)) ≡ length r.main.locations.now
placed-many columns r have = picked-long columns (joined_rows r) ∙ joined-many columns r have

pub first-rows : (columns : List ℕ) (n : ℕ) (old new : JoinedRows) → IsFirst n old new
    → picked_rows columns (joined_rows new) ≡ take n (picked_rows columns (joined_rows old))
first-rows columns n old new is =
    ap (picked_rows columns) (joined-first n old new is) ∙ sym (picked-taken columns n (joined_rows old))

-- the first of them can be a batch
pub first-batch : (ls : Roses Layout) (left : PlaceRows) (n : ℕ) (first : JoinedRows) (cs : List LocatedColumn)
    → IsFirst n left.rows first → AreRowsOf cs (picked_rows left.columns.now (joined_rows first))
    → IsBatch ls (take n (placed_left left)) → MakeBatch ls cs (take n (placed_left left))
first-batch ls left n first cs is cells batch = record {
  cells = subst (AreRowsOf cs) (first-rows left.columns.now n left.rows first is) cells;
  batch = batch;
}

pub left-rows : (columns : List ℕ) (n : ℕ) (old new : JoinedRows) → IsRest n old new
    → picked_rows columns (joined_rows new) ≡ drop n (picked_rows columns (joined_rows old))
left-rows columns n old new is =
    ap (picked_rows columns) (joined-rest n old new is) ∙ sym (picked-dropped columns n (joined_rows old))

pub fits-left : (ls : List (Rose Layout)) (old : PlaceRows) (n : ℕ) (rows : JoinedRows) → IsRest n old.rows rows
    → FitsLocations ls old → FitsLocations ls (record { columns = old.columns; arrays = old.arrays; rows = rows })
fits-left ls old n rows is fits =
    let size = ap length is.main ∙ length-drop n old.rows.main.locations.now in
    record {
      many = fits.many;
      arrays = arrays-part (drop n) old.rows rows old.columns.now old.arrays.now is fits.arrays;
      have = have-rest n old.columns.now old.rows rows is fits.have;
      light = light-left (kids_of ls) (placed_left old) _ n (left-rows old.columns.now n old.rows rows is) fits.light;
      small = omega (arith, size, fits.small);
    }

-- copies of cells

pub column-found : (columns : List ℕ) (r : JoinedRows) (at k : ℕ) (rows : LocatedRows) → HaveJoined columns r
    → at < length columns → rows ≡ half r (get_or columns at 0) → k ≡ place_of r (get_or columns at 0)
    → HaveColumn k rows
column-found columns r at k rows have h same place =
    let j : ℕ = get_or columns at 0 in
    subst (HaveColumn k) (sym same)
    (subst (λ i. HaveColumn i (half r j)) (sym place) (joined-have columns r j have (column-below columns r at have h)))

pub locations-many : (columns : List ℕ) (r : JoinedRows) (at i : ℕ) (rows : LocatedRows) → HaveJoined columns r
    → rows ≡ half r (get_or columns at 0) → i < length r.main.locations.now → i < length rows.locations.now
locations-many columns r at i rows have same below =
    let many = ap (λ (x : LocatedRows). length x.locations.now) same ∙ half-many columns r (get_or columns at 0) have in
    omega (arith, below, many)

pub cell-found : (columns : List ℕ) (r : JoinedRows) (at i k : ℕ) (rows : LocatedRows) (d : Datum)
    → HaveJoined columns r → rows ≡ half r (get_or columns at 0) → k ≡ place_of r (get_or columns at 0)
    → i < length r.main.locations.now → d ≡ get_or (column_at k rows) i null
    → d ≡ get_or (get_or (joined_rows r) i []) (get_or columns at 0) null
cell-found columns r at i k rows d have same place below read =
    read ∙ ap (λ ds. get_or ds i null) (ap₂ column_at place same)
    ∙ joined-cell columns r i (get_or columns at 0) have below

-- copies of rows

pub copied-more : (columns : List ℕ) (rows : List (List Datum)) (i : ℕ) (row : List Datum)
    (made next whole : List (List Datum)) → i < length rows → row ≡ picked columns (get_or rows i [])
    → next ≡ made ++ row ∷ [] → made ++ picked_rows columns (drop i rows) ≡ whole
    → next ++ picked_rows columns (drop (i + 1) rows) ≡ whole
copied-more columns rows i row made next whole h is n all =
    let rest : List (List Datum) = picked_rows columns (drop (i + 1) rows) in
    ap (λ xs. xs ++ rest) n ∙ append_assoc made (row ∷ []) rest ∙ ap (λ x. made ++ x ∷ rest) is
    ∙ sym (ap (λ xs. made ++ picked_rows columns xs) (drop_more rows i [] h)) ∙ all

pub copied-end : (columns : List ℕ) (rows : List (List Datum)) (i : ℕ) (made whole : List (List Datum))
    → length rows ≤ i → made ++ picked_rows columns (drop i rows) ≡ whole → made ≡ whole
copied-end columns rows i made whole end all =
    sym (append-nil made) ∙ ap (λ xs. made ++ picked_rows columns xs) (sym (drop_all i rows end)) ∙ all
