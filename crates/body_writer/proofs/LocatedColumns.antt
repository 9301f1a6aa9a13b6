-- The columns of rows at single locations.
use Rattle.std.proofs.Common.{
  ◌≡◌,
  ℕ,
  zero,
  suc,
  ◌+◌,
  ◌<◌,
  ◌≤◌,
  List,
  [],
  ◌∷◌,
  ◌++◌,
  All,
  None,
  Ok,
  Some,
  length,
  get_or,
  take,
  drop,
  refl,
  ap,
  ap₂,
  sym,
  subst,
  ◌∙◌,
  arith,
  inl,
  inr,
  append-nil,
  append_assoc,
}
use Rattle.std.specs.Prelude.{Option, map, slice_get}
use Rattle.std.proofs.lemmas.List.{drop_all, drop_more, get_or-map, length-map}
use Rattle.std.proofs.lemmas.List.Elements.{All-get_or, All-head, All-tail, All-weaker}
use Rattle.std.proofs.lemmas.Option.{get_or_from_slice_get, none-some, slice_get_cases, slice_get_past, slice_get_within}
use Rattle.std.proofs.lemmas.Bool.{cases_lt}
use denote.Ref.{Bor}
use Rattle.values.specs.Datum.{Datum, null}
use Rattle.values.specs.Rose.{Rose}
use Rattle.values.specs.declared.layout.Layout.{Layout}
use Rattle.array_layout.specs.declared.array.ArrayData.{ArrayData}
use Rattle.array_layout.specs.Cells.{cell, cells}
use Rattle.arrays.specs.Checked.{CheckedColumn}
use Rattle.schema_meta.specs.Rows.{row_at}
use Rattle.body_writer.specs.Batch.{row_cell, row_cells}
use Rattle.body_writer.specs.Slots.{part}
use Rattle.body_writer.specs.Runs.{cell_in, slots}
use Rattle.body_writer.specs.Segments.{array_of}
use Rattle.body_writer.specs.RowRanges.{IsSized, cells_in}
use Rattle.body_writer.specs.Locations.{ArePlain, AreRowsOf, Fits, HasCells, HasCellsAt, HasRow, IsLocated, IsReady, IsSlot, IsWritable, cell_there, cells_at, column_cells, layout_of, located_cell, located_cells, located_row, row_in}
use Rattle.body_writer.specs.declared.from_columns.batch.Batch.{Batch}
use Rattle.body_writer.specs.declared.from_locations.location.RowLocation.{RowLocation}
use Rattle.body_writer.specs.declared.from_locations.plain.PlainArray.{PlainArray}
use Rattle.body_writer.specs.declared.from_locations.write.LocatedColumn.{LocatedColumn}
use Rattle.body_writer.proofs.Cells.{listed-items_of, part-listed}
use Rattle.body_writer.proofs.RowRangeLemmas.{cells-long, column-slots}

-- one cell

slot-cell : (b : List ℕ) (t : Rose ArrayData) (ds : List Datum) (k : ℕ) → cells b t ≡ Ok ds → k < length ds
    → cell_in (cell b t k) ≡ get_or ds k null
unfolding slots
slot-cell b t ds k is below =
    let one = column-slots b t ds k 1 is (omega (arith, below)) in
    ap (λ xs. get_or xs 0 null) (one ∙ ap (take 1) (drop_more ds k null below))

row-part : (columns : List (List Datum)) (i j : ℕ) → j < length columns
    → part j (row_cell (row_at columns i)) ≡ get_or (get_or columns j []) i null
row-part columns i j h =
    ap (λ ds. get_or ds j null) (listed-items_of (row_at columns i))
    ∙ get_or-map (λ c. get_or c i null) columns j [] null h

-- column j of a batch that has n of them
record Found (j : ℕ) (b : Batch) : Type 0 where
  column : CheckedColumn
  there : slice_get b.columns.items j ≡ Some column
  long : length column.cells ≡ b.rows
  below : j < length b.columns.items

found : (n j : ℕ) (b : Batch) → IsSized n b → j < n → Found j b
found n j b sized h = elim (slice_get_cases b.columns.items j).1 [
  | inl inside ↦ record {
    column = inside.0;
    there = inside.2;
    long =
        let P : CheckedColumn → Type 0 = λ c. length c.cells ≡ b.rows in
        subst P inside.3 (All-get_or P b.columns.items j inside.0 inside.1 sized.cells);
    below = inside.1;
  }
  | inr out ↦ absurd (omega (arith, h, sized.columns, out.0))
]

cell-of : (o : Option (Option PlainArray)) (l : Layout) (ds : List Datum) (i : ℕ) → HasCellsAt l ds o → i < length ds
    → cell_there o i ≡ get_or ds i null
cell-of (Some (Some a)) l ds i has h =
    slot-cell a.slots.parts.body.now (array_of a.slots.parts) ds i has.cells_are h
cell-of (Some None) l ds i has h = absurd has
cell-of None l ds i has h = absurd has

there-cell : (l : Layout) (n j : ℕ) (bs : List (Bor Batch)) (xs : List (Option PlainArray)) (p : RowLocation)
    (batch : Bor Batch) → ArePlain l j bs xs → j < n → slice_get bs p.batch ≡ Some batch → HasRow n p.row batch.now
    → part j (row_cell (located_row bs p)) ≡ located_cell xs p
there-cell l n j bs xs p batch plain h there row =
    let b = batch.now in
    let at = found n j b row.sized h in
    let items : CheckedColumn → List Datum = λ c. c.cells in
    let many = length-map b.columns.items items in
    let here : get_or (cells_in b.columns.items) j [] ≡ at.column.cells =
    get_or-map items b.columns.items j at.column [] at.below
    ∙ ap items (get_or_from_slice_get b.columns.items j at.column at.column at.there) in
    ap (λ o. part j (row_cell (row_in o p.row))) there
    ∙ row-part (cells_in b.columns.items) p.row j (omega (arith, at.below, many))
    ∙ ap (λ ds. get_or ds p.row null) here
    ∙ sym (cell-of (slice_get xs p.batch) l at.column.cells p.row
    (plain p.batch batch at.column there at.there) (omega (arith, row.within, at.long)))

-- Where there is no batch, there is no array.
none-there : (bs : List (Bor Batch)) (xs : List (Option PlainArray)) (k : ℕ) → length xs ≤ length bs → length bs ≤ k
    → slice_get xs k ≡ None
none-there bs xs k few past = slice_get_past xs k (omega (arith, few, past))

pub placed-cell : (l : Layout) (n j : ℕ) (bs : List (Bor Batch)) (xs : List (Option PlainArray)) (p : RowLocation)
    → ArePlain l j bs xs → length xs ≤ length bs → j < n → IsLocated n bs p
    → part j (row_cell (located_row bs p)) ≡ located_cell xs p
placed-cell l n j bs xs p plain few h placed = elim (slice_get_cases bs p.batch).1 [
  | inl inside ↦ there-cell l n j bs xs p inside.0 plain h inside.2 (placed inside.0 inside.2)
  | inr out ↦
      ap (λ o. part j (row_cell (row_in o p.row))) out.1 ∙ part-listed j []
      ∙ sym (ap (λ o. cell_there o p.row) (none-there bs xs p.batch few out.0))
]

-- all of them

pub placed-column : (l : Layout) (n j : ℕ) (bs : List (Bor Batch)) (xs : List (Option PlainArray))
    (ps : List RowLocation) → ArePlain l j bs xs → length xs ≤ length bs → j < n → All (IsLocated n bs) ps
    → map (part j) (row_cells (map (located_row bs) ps)) ≡ located_cells xs ps
placed-column l n j bs xs [] plain few h all = refl
placed-column l n j bs xs (p ∷ ps) plain few h all =
    ap₂ (λ d ds. d ∷ ds) (placed-cell l n j bs xs p plain few h (All-head (IsLocated n bs) p ps all))
    (placed-column l n j bs xs ps plain few h (All-tail (IsLocated n bs) p ps all))

fits-by : (o : Option (Option PlainArray)) (l : Layout) (ds : List Datum) (i : ℕ) (a : PlainArray)
    → HasCellsAt l ds o → i < length ds → o ≡ Some (Some a) → IsSlot l a i
fits-by o l ds i a has h is =
    let there : HasCells l ds a = subst (HasCellsAt l ds) is has in
    let long = cells-long a.slots.parts.body.now (array_of a.slots.parts) ds there.cells_are in
    record { plain = there.plain; below = omega (arith, h, long, there.all) }

placed-fits : (l : Layout) (n j : ℕ) (bs : List (Bor Batch)) (xs : List (Option PlainArray)) → ArePlain l j bs xs
    → length xs ≤ length bs → j < n → (p : RowLocation) → IsLocated n bs p → Fits l xs p
placed-fits l n j bs xs plain few h p placed a is = elim (slice_get_cases bs p.batch).1 [
  | inl inside ↦
      let row = placed inside.0 inside.2 in
      let at = found n j inside.0.now row.sized h in
      fits-by (slice_get xs p.batch) l at.column.cells p.row a
      (plain p.batch inside.0 at.column inside.2 at.there) (omega (arith, row.within, at.long)) is
  | inr out ↦ absurd (none-some (Some a) (sym (none-there bs xs p.batch few out.0) ∙ is))
]

pub all-fit : (l : Layout) (n j : ℕ) (bs : List (Bor Batch)) (xs : List (Option PlainArray)) (ps : List RowLocation)
    → ArePlain l j bs xs → length xs ≤ length bs → j < n → All (IsLocated n bs) ps → All (Fits l xs) ps
all-fit l n j bs xs ps plain few h all =
    All-weaker (IsLocated n bs) (Fits l xs) (placed-fits l n j bs xs plain few h) ps all

-- a cell, read from its column
pub cell-read : (n j : ℕ) (bs : List (Bor Batch)) (p : RowLocation) (batch : Bor Batch) (c : CheckedColumn) → j < n
    → IsLocated n bs p → slice_get bs p.batch ≡ Some batch → c ≡ get_or batch.now.columns.items j c
    → get_or (located_row bs p) j null ≡ get_or c.cells p.row null
cell-read n j bs p batch c h placed there is =
    let b = batch.now in
    let row = placed batch there in
    let items : CheckedColumn → List Datum = λ x. x.cells in
    let many = length-map b.columns.items items in
    let inside : j < length b.columns.items = omega (arith, h, row.sized.columns) in
    ap (λ o. get_or (row_in o p.row) j null) there
    ∙ get_or-map (λ ds. get_or ds p.row null) (cells_in b.columns.items) j [] null (omega (arith, inside, many))
    ∙ ap (λ ds. get_or ds p.row null) (get_or-map items b.columns.items j c [] inside ∙ ap items (sym is))

-- cell after cell

pub placed-item : (n : ℕ) (bs : List (Bor Batch)) (ps : List RowLocation) (i : ℕ) (p : RowLocation)
    → All (IsLocated n bs) ps → i < length ps → IsLocated n bs (get_or ps i p)
placed-item n bs ps i p all h = All-get_or (IsLocated n bs) ps i p h all

pub cells-step : (j : ℕ) (bs : List (Bor Batch)) (ps : List RowLocation) (i : ℕ) (p : RowLocation)
    (made next total : List Datum) → i < length ps
    → next ≡ made ++ get_or (located_row bs (get_or ps i p)) j null ∷ [] → made ++ cells_at j bs (drop i ps) ≡ total
    → next ++ cells_at j bs (drop (i + 1) ps) ≡ total
cells-step j bs ps i p made next total h n so =
    let rest = cells_at j bs (drop (i + 1) ps) in
    let q : RowLocation = get_or ps i p in
    let d : Datum = get_or (located_row bs q) j null in
    let split : cells_at j bs (drop i ps) ≡ d ∷ rest =
    ap (cells_at j bs) (drop_more ps i p h) ∙ ap (λ e. e ∷ rest) (part-listed j (located_row bs q)) in
    ap (λ xs. xs ++ rest) n ∙ append_assoc made (d ∷ []) rest ∙ ap (λ xs. made ++ xs) (sym split) ∙ so

pub cells-end : (j : ℕ) (bs : List (Bor Batch)) (ps : List RowLocation) (i : ℕ) (made total : List Datum)
    → length ps ≤ i → made ++ cells_at j bs (drop i ps) ≡ total → made ≡ total
cells-end j bs ps i made total h so =
    sym (append-nil made) ∙ ap (λ qs. made ++ cells_at j bs qs) (sym (drop_all i ps h)) ∙ so

-- array after array

got-left : {A : Type 0} (xs ys : List A) (k : ℕ) → k < length xs → slice_get (xs ++ ys) k ≡ slice_get xs k
got-left [] ys k h = absurd (omega (arith, h))
got-left (x ∷ xs) ys zero h = refl
got-left (x ∷ xs) ys (suc k) h = got-left xs ys k (omega (arith, h))

got-last : {A : Type 0} (xs : List A) (x : A) → slice_get (xs ++ x ∷ []) (length xs) ≡ Some x
got-last [] x = refl
got-last (y ∷ xs) x = got-last xs x

-- the arrays of the first i batches
abbrev pub AreSo : Layout → ℕ → List (Bor Batch) → List (Option PlainArray) → ℕ → Type 0
AreSo l j bs xs i = (k : ℕ) (b : Bor Batch) (c : CheckedColumn) → k < i → slice_get bs k ≡ Some b
    → slice_get b.now.columns.items j ≡ Some c → HasCellsAt l c.cells (slice_get xs k)

pub one-more : (l : Layout) (j : ℕ) (bs : List (Bor Batch)) (made next : List (Option PlainArray))
    (new : Option PlainArray) (i : ℕ) (item : Bor Batch) → next ≡ made ++ new ∷ [] → length made ≡ i
    → item ≡ get_or bs i item → AreSo l j bs made i
    → ((c : CheckedColumn) → slice_get item.now.columns.items j ≡ Some c → HasCellsAt l c.cells (Some new))
    → AreSo l j bs next (i + 1)
one-more l j bs made next new i item n many at so here k b c below there column = elim (cases_lt k i) [
  | inl before ↦
      let same : slice_get next k ≡ slice_get made k =
      ap (λ xs. slice_get xs k) n ∙ got-left made (new ∷ []) k (omega (arith, before, many)) in
      subst (HasCellsAt l c.cells) (sym same) (so k b c before there column)
  | inr past ↦
      let last : k ≡ length made = omega (arith, past, below, many) in
      let same : slice_get next k ≡ Some new =
      ap (λ xs. slice_get xs k) n ∙ ap (λ m. slice_get (made ++ new ∷ []) m) last ∙ got-last made new in
      let place : i ≡ k = omega (arith, last, many) in
      let it : item ≡ b =
      at ∙ ap (λ m. get_or bs m item) place ∙ get_or_from_slice_get bs k b item there in
      subst (HasCellsAt l c.cells) (sym same)
      (here c (subst (λ (x : Bor Batch). slice_get x.now.columns.items j ≡ Some c) (sym it) column))
]

pub all-so : (l : Layout) (j : ℕ) (bs : List (Bor Batch)) (xs : List (Option PlainArray)) (i : ℕ) → length bs ≤ i
    → AreSo l j bs xs i → ArePlain l j bs xs
all-so l j bs xs i h so k b c there column =
    let inside = slice_get_within bs k b there in
    so k b c (omega (arith, h, inside)) there column

-- the cells of arrays that are ready

pub ready-cells : (t : Rose Layout) (c : LocatedColumn) (xs : List (Option PlainArray)) (ps : List RowLocation)
    → xs ≡ c.arrays.now.arrays.items → ps ≡ c.rows.locations.now → IsReady t c.arrays.now → IsWritable c
    → column_cells c ≡ located_cells xs ps
ready-cells t c xs ps is locations ready column =
    let s = c.arrays.now in
    let have = column.have in
    placed-column s.layout have.width s.column c.rows.batches.now s.arrays.items c.rows.locations.now
    (column.found.plain ready.plain) column.found.few have.below have.placed
    ∙ ap (λ ys. located_cells ys c.rows.locations.now) (sym is) ∙ ap (located_cells xs) (sym locations)

pub ready-fits : (t : Rose Layout) (c : LocatedColumn) (xs : List (Option PlainArray)) (ps : List RowLocation)
    → xs ≡ c.arrays.now.arrays.items → ps ≡ c.rows.locations.now → IsReady t c.arrays.now → IsWritable c
    → All (Fits (layout_of t) xs) ps
ready-fits t c xs ps is locations ready column =
    let s = c.arrays.now in
    let have = column.have in
    subst (λ l. All (Fits l xs) ps) ready.layout
    (subst (λ ys. All (Fits s.layout ys) ps) (sym is)
    (subst (All (Fits s.layout s.arrays.items)) (sym locations)
    (all-fit s.layout have.width s.column c.rows.batches.now s.arrays.items c.rows.locations.now
    (column.found.plain ready.plain) column.found.few have.below have.placed)))

-- column after column
pub column-there : (cs : List LocatedColumn) (rows : List (List Datum)) (j : ℕ) (c : LocatedColumn) → AreRowsOf cs rows
    → j < length cs → c ≡ get_or cs j c → column_cells c ≡ map (part j) (row_cells rows)
column-there cs rows j c are h is = sym (are j c h is)
