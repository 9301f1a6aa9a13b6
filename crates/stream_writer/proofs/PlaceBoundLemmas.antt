-- Bounds on the weights of rows at single locations.
use Rattle.std.proofs.Common.{◌≡◌, ℕ, ◌+◌, ◌<◌, ◌≤◌, List, [], ◌∷◌, All, Some, length, get_or, drop, ap, sym, subst, ◌∙◌, arith, inl, inr}
use Rattle.std.specs.Prelude.{map, max, slice_get}
use Rattle.std.proofs.lemmas.Bool.{cases_lt}
use Rattle.std.proofs.lemmas.List.{drop_all, drop_more}
use Rattle.std.proofs.lemmas.List.Elements.{All-cons, All-get_or, All-head, All-nil, All-tail}
use Rattle.std.proofs.lemmas.Option.{get_or_from_slice_get, slice_get_cases, slice_get_within}
use denote.Ref.{Bor}
use Rattle.values.specs.Datum.{Datum, items_of, null}
use Rattle.values.specs.Layouts.{Holds, HoldsEach, null_weight, weight}
use Rattle.values.specs.Limits.{max_cell_weight}
use Rattle.values.specs.Rose.{Rose, kids_of}
use Rattle.values.specs.declared.layout.Layout.{Layout}
use Rattle.arrays.specs.Checked.{CheckedColumn}
use Rattle.body_writer.specs.Batch.{row_cell, row_cells, row_weight}
use Rattle.body_writer.specs.Picked.{picked, picked_rows}
use Rattle.body_writer.specs.Locations.{IsLocated, located_row, row_in}
use Rattle.body_writer.specs.Slots.{part}
use Rattle.body_writer.specs.declared.from_columns.batch.Batch.{Batch}
use Rattle.body_writer.specs.declared.from_locations.location.LocatedRows.{LocatedRows}
use Rattle.body_writer.specs.declared.from_locations.location.RowLocation.{RowLocation}
use Rattle.body_writer.proofs.Cells.{part-listed}
use Rattle.body_writer.proofs.LocatedColumns.{cell-read}
use Rattle.body_writer.proofs.WeightLemmas.{null-weight}
use Rattle.stream_writer.specs.BatchRows.{AreLightRows, max_light_row}
use Rattle.stream_writer.specs.JoinedRows.{HaveJoined, half, joined_rows, place_of}
use Rattle.stream_writer.specs.PlaceRows.{BoundsBatch, BoundsColumn}
use Rattle.stream_writer.specs.RangeBounds.{BoundsCells}
use Rattle.stream_writer.specs.RangeRows.{HoldRows}
use Rattle.stream_writer.specs.declared.joined_rows.JoinedRows.{JoinedRows}
use Rattle.stream_writer.proofs.JoinedLemmas.{column-below, joined-column, joined-have}

-- batch after batch

pub bounds-more : (t : Rose Layout) (c : CheckedColumn) (from to m n : ℕ) → BoundsCells t c from to m → m ≤ n
    → n ≤ max_cell_weight + 4 → BoundsCells t c from to n
bounds-more t c from to m n bound le small = record {
  each = λ k low high holds. let here = bound.each k low high holds in omega (arith, here, le);
  most_is = small;
}

-- the bound of the first i batches
abbrev pub BoundsFirst : Rose Layout → ℕ → List (Bor Batch) → ℕ → ℕ → Type 0
BoundsFirst t j bs i most = (k : ℕ) (b : Bor Batch) → k < i → slice_get bs k ≡ Some b → BoundsBatch t j b.now most

pub first-more : (t : Rose Layout) (j : ℕ) (bs : List (Bor Batch)) (i most own next : ℕ) (item : Bor Batch)
    → item ≡ get_or bs i item → next ≡ max most own → most ≤ max_cell_weight + 4 → own ≤ max_cell_weight + 4
    → BoundsBatch t j item.now own → BoundsFirst t j bs i most → BoundsFirst t j bs (i + 1) next
first-more t j bs i most own next item at is small little here before k b below there c column = elim (cases_lt k i) [
  | inl less ↦
      bounds-more t c 0 (length c.cells) most next (before k b less there c column) (omega (arith, is))
      (omega (arith, is, small, little))
  | inr over ↦
      let place : i ≡ k = omega (arith, over, below) in
      let it : b ≡ item =
      sym (at ∙ ap (λ m. get_or bs m item) place ∙ get_or_from_slice_get bs k b item there) in
      bounds-more t c 0 (length c.cells) own next
      (here c (subst (λ (x : Bor Batch). slice_get x.now.columns.items j ≡ Some c) it column)) (omega (arith, is))
      (omega (arith, is, small, little))
]

pub first-all : (t : Rose Layout) (j : ℕ) (bs : List (Bor Batch)) (i most : ℕ) → length bs ≤ i → null_weight t ≤ most
    → BoundsFirst t j bs i most → BoundsColumn t j bs most
first-all t j bs i most end least before = record {
  each = λ k b there. let inside = slice_get_within bs k b there in before k b (omega (arith, end, inside)) there;
  null = least;
}

pub bound-as : (t : Rose Layout) (j k most : ℕ) (old new : LocatedRows) → old ≡ new → j ≡ k
    → BoundsColumn t j old.batches.now most → BoundsColumn t k new.batches.now most
bound-as t j k most old new rows place bound =
    subst (λ i. BoundsColumn t i new.batches.now most) place
    (subst (λ (x : LocatedRows). BoundsColumn t j x.batches.now most) rows bound)

-- location after location

-- A value that this layout holds isn't heavier in it.
abbrev pub IsWithin : Rose Layout → ℕ → Datum → Type 0
IsWithin t most d = Holds t d → weight t d ≤ most

cell-within : (t : Rose Layout) (j n most : ℕ) (bs : List (Bor Batch)) (p : RowLocation) → BoundsColumn t j bs most → j < n
    → IsLocated n bs p → IsWithin t most (get_or (located_row bs p) j null)
cell-within t j n most bs p bound h placed = elim (slice_get_cases bs p.batch).1 [
  | inl inside ↦
      let batch = inside.0.now in
      let row = placed inside.0 inside.2 in
      let cs = batch.columns.items in
      elim (slice_get_cases cs j).1 [
        | inl found ↦
            let c : CheckedColumn = found.0 in
            let L : CheckedColumn → Type 0 = λ x. length x.cells ≡ batch.rows in
            let long : length c.cells ≡ batch.rows = subst L found.3 (All-get_or L cs j c found.1 row.sized.cells) in
            let read = cell-read n j bs p inside.0 c h placed inside.2 (sym found.3) in
            let each = (bound.each p.batch inside.0 inside.2 c found.2).each p.row (omega arith)
            (omega (arith, row.within, long)) in
            subst (IsWithin t most) (sym read) each
        | inr out ↦ absurd (omega (arith, h, row.sized.columns, out.0))
      ]
  | inr out ↦
      let none = ap (λ o. get_or (row_in o p.row) j null) out.1 in
      let same = null-weight t in
      subst (IsWithin t most) (sym none) (λ held. omega (arith, same, bound.null))
]

column-within : (t : Rose Layout) (j n most : ℕ) (bs : List (Bor Batch)) (ps : List RowLocation) → BoundsColumn t j bs most
    → j < n → All (IsLocated n bs) ps
    → All (IsWithin t most) (map (part j) (row_cells (map (located_row bs) ps)))
column-within t j n most bs [] bound h all = All-nil (IsWithin t most)
column-within t j n most bs (p ∷ ps) bound h all =
    All-cons (IsWithin t most) (part j (row_cell (located_row bs p))) (map (part j) (row_cells (map (located_row bs) ps)))
    (subst (IsWithin t most) (sym (part-listed j (located_row bs p)))
    (cell-within t j n most bs p bound h (All-head (IsLocated n bs) p ps all)))
    (column-within t j n most bs ps bound h (All-tail (IsLocated n bs) p ps all))

cells-within : (t : Rose Layout) (j most : ℕ) (rows : List (List Datum))
    → All (IsWithin t most) (map (part j) (row_cells rows)) → All (λ row. IsWithin t most (get_or row j null)) rows
cells-within t j most [] all = All-nil (λ row. IsWithin t most (get_or row j null))
cells-within t j most (row ∷ rows) all =
    let rest = map (part j) (row_cells rows) in
    All-cons (λ r. IsWithin t most (get_or r j null)) row rows
    (subst (IsWithin t most) (part-listed j row) (All-head (IsWithin t most) (part j (row_cell row)) rest all))
    (cells-within t j most rows (All-tail (IsWithin t most) (part j (row_cell row)) rest all))

joined-within : (t : Rose Layout) (columns : List ℕ) (r : JoinedRows) (i most : ℕ) → HaveJoined columns r
    → i < length columns
    → BoundsColumn t (place_of r (get_or columns i 0)) (half r (get_or columns i 0)).batches.now most
    → All (λ row. IsWithin t most (get_or row (get_or columns i 0) null)) (joined_rows r)
joined-within t columns r i most have h bound =
    let j : ℕ = get_or columns i 0 in
    let column = joined-have columns r j have (column-below columns r i have h) in
    cells-within t j most (joined_rows r)
    (subst (All (IsWithin t most)) (sym (joined-column columns r j have))
    (column-within t (place_of r j) column.width most (half r j).batches.now (half r j).locations.now bound column.below
    column.placed))

-- column after column

-- the sum of the bounds so far, and what the remaining columns weigh
pub record IsLightSoFar (ls : List (Rose Layout)) (columns : List ℕ) (i sum : ℕ) (row : List Datum) : Type 0 where
  pub held : HoldsEach (kids_of (drop i ls)) (items_of (picked (drop i columns) row))
  pub light : row_weight (kids_of ls) (picked columns row) ≤ sum + row_weight (kids_of (drop i ls)) (picked (drop i columns) row)

abbrev pub AreLightSoFar : List (Rose Layout) → List ℕ → List (List Datum) → ℕ → ℕ → Type 0
AreLightSoFar ls columns rows i sum = All (IsLightSoFar ls columns i sum) rows

pub light-first : (ls : List (Rose Layout)) (columns : List ℕ) (rows : List (List Datum))
    → HoldRows (kids_of ls) (picked_rows columns rows) → AreLightSoFar ls columns rows 0 0
light-first ls columns [] held = All-nil (IsLightSoFar ls columns 0 0)
light-first ls columns (row ∷ rows) held =
    let H : List Datum → Type 0 = λ r. HoldsEach (kids_of ls) (items_of r) in
    let rest = picked_rows columns rows in
    All-cons (IsLightSoFar ls columns 0 0) row rows
    (record { held = All-head H (picked columns row) rest held; light = omega arith })
    (light-first ls columns rows (All-tail H (picked columns row) rest held))

one-more : (ls : List (Rose Layout)) (columns : List ℕ) (i sum most : ℕ) (t : Rose Layout) (row : List Datum)
    → i < length ls → i < length columns → t ≡ get_or ls i t → IsWithin t most (get_or row (get_or columns i 0) null)
    → IsLightSoFar ls columns i sum row → IsLightSoFar ls columns (i + 1) (sum + most) row
one-more ls columns i sum most t row h picks is within so_far =
    let j : ℕ = get_or columns i 0 in
    let first : drop i ls ≡ t ∷ drop (i + 1) ls =
    drop_more ls i t h ∙ ap (λ x. x ∷ drop (i + 1) ls) (sym is) in
    let second : drop i columns ≡ j ∷ drop (i + 1) columns = drop_more columns i 0 picks in
    let held : Holds t (get_or row j null) × HoldsEach (kids_of (drop (i + 1) ls)) (items_of (picked (drop (i + 1) columns) row)) =
    subst (λ js. HoldsEach (kids_of (t ∷ drop (i + 1) ls)) (items_of (picked js row))) second
    (subst (λ us. HoldsEach (kids_of us) (items_of (picked (drop i columns) row))) first so_far.held) in
    let weighs = ap (λ us. row_weight (kids_of us) (picked (drop i columns) row)) first in
    let then = ap (λ js. row_weight (kids_of (t ∷ drop (i + 1) ls)) (picked js row)) second in
    let light = within held.0 in
    record { held = held.1; light = omega (arith, so_far.light, weighs, then, light) }

all-more : (ls : List (Rose Layout)) (columns : List ℕ) (i sum most : ℕ) (t : Rose Layout) (rows : List (List Datum))
    → i < length ls → i < length columns → t ≡ get_or ls i t
    → All (λ row. IsWithin t most (get_or row (get_or columns i 0) null)) rows
    → AreLightSoFar ls columns rows i sum → AreLightSoFar ls columns rows (i + 1) (sum + most)
all-more ls columns i sum most t [] h picks is within so_far = All-nil (IsLightSoFar ls columns (i + 1) (sum + most))
all-more ls columns i sum most t (row ∷ rows) h picks is within so_far =
    let W : List Datum → Type 0 = λ r. IsWithin t most (get_or r (get_or columns i 0) null) in
    let S : List Datum → Type 0 = IsLightSoFar ls columns i sum in
    All-cons (IsLightSoFar ls columns (i + 1) (sum + most)) row rows
    (one-more ls columns i sum most t row h picks is (All-head W row rows within) (All-head S row rows so_far))
    (all-more ls columns i sum most t rows h picks is (All-tail W row rows within) (All-tail S row rows so_far))

pub light-more : (ls : List (Rose Layout)) (columns : List ℕ) (r : JoinedRows) (i sum most : ℕ) (t : Rose Layout)
    → HaveJoined columns r → i < length ls → length columns ≡ length ls → t ≡ get_or ls i t
    → BoundsColumn t (place_of r (get_or columns i 0)) (half r (get_or columns i 0)).batches.now most
    → AreLightSoFar ls columns (joined_rows r) i sum → AreLightSoFar ls columns (joined_rows r) (i + 1) (sum + most)
light-more ls columns r i sum most t have h many is bound so_far =
    let picks : i < length columns = omega (arith, h, many) in
    all-more ls columns i sum most t (joined_rows r) h picks is (joined-within t columns r i most have picks bound) so_far

one-light : (ls : List (Rose Layout)) (columns : List ℕ) (i sum : ℕ) (row : List Datum) → length ls ≤ i
    → sum ≤ max_light_row → IsLightSoFar ls columns i sum row → row_weight (kids_of ls) (picked columns row) ≤ max_light_row
one-light ls columns i sum row end small so_far =
    let none = ap (λ us. row_weight (kids_of us) (picked (drop i columns) row)) (drop_all i ls end) in
    omega (arith, so_far.light, none, small)

pub light-end : (ls : List (Rose Layout)) (columns : List ℕ) (rows : List (List Datum)) (i sum : ℕ) → length ls ≤ i
    → sum ≤ max_light_row → AreLightSoFar ls columns rows i sum
    → AreLightRows (kids_of ls) (picked_rows columns rows)
light-end ls columns [] i sum end small so_far = All-nil (λ row. row_weight (kids_of ls) row ≤ max_light_row)
light-end ls columns (row ∷ rows) i sum end small so_far =
    let P : List Datum → Type 0 = λ r. row_weight (kids_of ls) r ≤ max_light_row in
    let S : List Datum → Type 0 = IsLightSoFar ls columns i sum in
    All-cons P (picked columns row) (picked_rows columns rows)
    (one-light ls columns i sum row end small (All-head S row rows so_far))
    (light-end ls columns rows i sum end small (All-tail S row rows so_far))
