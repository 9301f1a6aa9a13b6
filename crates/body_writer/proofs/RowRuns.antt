-- Runs of consecutive rows of a batch.
use Rattle.std.proofs.Common.{
  ◌≡◌,
  ℕ,
  zero,
  suc,
  ◌+◌,
  ◌-◌,
  ◌<◌,
  ◌≤◌,
  List,
  [],
  ◌∷◌,
  ◌++◌,
  All,
  None,
  Some,
  length,
  get_or,
  drop,
  replicate,
  refl,
  ap,
  ap₂,
  sym,
  subst,
  ◌∙◌,
  arith,
  append_assoc,
}
use Rattle.std.specs.Prelude.{map, slice_get}
use Rattle.std.proofs.lemmas.List.{drop_more}
use Rattle.std.proofs.lemmas.List.Elements.{All-append, All-cons, All-get_or, All-head, All-nil, All-tail}
use denote.Ref.{Bor}
use Rattle.values.specs.Datum.{null}
use Rattle.schema_meta.specs.Rows.{rows_from}
use Rattle.body_writer.specs.Batch.{row_cell, row_cells}
use Rattle.body_writer.specs.Slots.{part}
use Rattle.body_writer.specs.RowRanges.{HasColumn, IsSized, cells_in, range_rows}
use Rattle.body_writer.specs.Segments.{HasWidth, OfSlots, segments_cells}
use Rattle.body_writer.specs.Locations.{HasRow, HaveCells, IsLocated, cells_at, located_row, row_in}
use Rattle.body_writer.specs.RowRuns.{run_places}
use Rattle.body_writer.specs.declared.from_columns.batch.Batch.{Batch}
use Rattle.body_writer.specs.declared.from_columns.segment.Segment.{Segment}
use Rattle.body_writer.specs.declared.from_locations.location.RowLocation.{RowLocation}
use Rattle.body_writer.proofs.Cells.{part-listed}
use Rattle.body_writer.proofs.RowRangeLemmas.{rows-cut}

abbrev place : ℕ → ℕ → RowLocation
place b i = record { batch = b; row = i }

-- one row more
run-more : (b from n : ℕ) → run_places b from (suc n) ≡ run_places b from n ++ place b (from + n) ∷ []
run-more b from zero =
    let here : from ≡ from + 0 = omega arith in
    ap (λ i. place b i ∷ []) here
run-more b from (suc n) =
    let here : from + 1 + n ≡ from + suc n = omega arith in
    ap (λ ps. place b from ∷ ps)
    (run-more b (from + 1) n ∙ ap (λ i. run_places b (from + 1) n ++ place b i ∷ []) here)

-- where there is such a batch

run-rows : (bs : List (Bor Batch)) (b from n : ℕ) (batch : Bor Batch) → slice_get bs b ≡ Some batch
    → map (located_row bs) (run_places b from n) ≡ rows_from (cells_in batch.now.columns.items) from n
unfolding rows_from
run-rows bs b from zero batch there = refl
run-rows bs b from (suc n) batch there =
    ap₂ (λ r rs. r ∷ rs) (ap (λ o. row_in o from) there) (run-rows bs b (from + 1) n batch there)

record Lies (w to : ℕ) (batch : Batch) : Type 0 where
  sized : IsSized w batch
  within : to ≤ batch.rows

run-lies : (w : ℕ) (bs : List (Bor Batch)) (b from n : ℕ) (batch : Bor Batch) → slice_get bs b ≡ Some batch
    → All (IsLocated w bs) (run_places b from (suc n)) → Lies w (from + suc n) batch.now
run-lies w bs b from zero batch there all =
    let row : HasRow w from batch.now =
    All-head (IsLocated w bs) (place b from) [] all batch there in
    record { sized = row.sized; within = omega (arith, row.within) }
run-lies w bs b from (suc n) batch there all =
    let rest = run-lies w bs b (from + 1) n batch there
    (All-tail (IsLocated w bs) (place b from) (run_places b (from + 1) (suc n)) all) in
    record { sized = rest.sized; within = omega (arith, rest.within) }

run-lies-in : (w : ℕ) (bs : List (Bor Batch)) (b from to : ℕ) (batch : Bor Batch) → slice_get bs b ≡ Some batch
    → from < to → All (IsLocated w bs) (run_places b from (to - from)) → Lies w to batch.now
run-lies-in w bs b from to batch there rows all =
    let many : to - from ≡ suc (to - from - 1) = omega (arith, rows) in
    let end : from + suc (to - from - 1) ≡ to = omega (arith, rows) in
    subst (λ k. Lies w k batch.now) end
    (run-lies w bs b from (to - from - 1) batch there
    (subst (λ k. All (IsLocated w bs) (run_places b from k)) many all))

pub run-column : (j : ℕ) (bs : List (Bor Batch)) (b from to : ℕ) (batch : Bor Batch) → slice_get bs b ≡ Some batch
    → from < to → HaveCells j bs (run_places b from (to - from))
    → HasColumn j (record { batch = batch; from = from; to = to })
run-column j bs b from to batch there rows have =
    let lies = run-lies-in have.width bs b from to batch there rows have.placed in
    record {
      below = omega (arith, have.below, lies.sized.columns);
      cells = lies.sized.cells;
      order = omega (arith, rows);
      within = lies.within;
    }

pub run-cells : (j : ℕ) (bs : List (Bor Batch)) (b from to : ℕ) (batch : Bor Batch) → slice_get bs b ≡ Some batch
    → from < to → HaveCells j bs (run_places b from (to - from))
    → map (part j) (row_cells (range_rows (record { batch = batch; from = from; to = to })))
    ≡ cells_at j bs (run_places b from (to - from))
run-cells j bs b from to batch there rows have =
    let lies = run-lies-in have.width bs b from to batch there rows have.placed in
    ap (λ rs. map (part j) (row_cells rs))
    (rows-cut (cells_in batch.now.columns.items) from (to - from) batch.now.rows (omega (arith, rows, lies.within))
    ∙ sym (run-rows bs b from (to - from) batch there))

-- where there is none
pub run-nulls : (j : ℕ) (bs : List (Bor Batch)) (b from n : ℕ) → slice_get bs b ≡ None
    → replicate n null ≡ cells_at j bs (run_places b from n)
run-nulls j bs b from zero none = refl
run-nulls j bs b from (suc n) none =
    ap₂ (λ d ds. d ∷ ds) (sym (ap (λ o. part j (row_cell (row_in o from))) none ∙ part-listed j []))
    (run-nulls j bs b (from + 1) n none)

-- the cells of more rows
cells-append : (j : ℕ) (bs : List (Bor Batch)) (ps qs : List RowLocation)
    → cells_at j bs (ps ++ qs) ≡ cells_at j bs ps ++ cells_at j bs qs
cells-append j bs [] qs = refl
cells-append j bs (p ∷ ps) qs = ap (λ ds. part j (row_cell (located_row bs p)) ∷ ds) (cells-append j bs ps qs)

-- The cells of the first i rows are those of the segments and of the last run.
pub record RunSoFar (j : ℕ) (bs : List (Bor Batch)) (ps : List RowLocation) (i : ℕ) (segments : List Segment)
    (b from to : ℕ) : Type 0 where
  pub order : from ≤ to
  pub placed : (w : ℕ) → All (IsLocated w bs) ps → All (IsLocated w bs) (run_places b from (to - from))
  pub width : All (OfSlots HasWidth) segments
  pub cells : segments_cells segments ++ cells_at j bs (run_places b from (to - from) ++ drop i ps) ≡ cells_at j bs ps

longer : (b from to : ℕ) (p : RowLocation) → from ≤ to → p.batch ≡ b → p.row ≡ to
    → run_places b from (to + 1 - from) ≡ run_places b from (to - from) ++ p ∷ []
longer b from to p order batch row =
    let many : to + 1 - from ≡ suc (to - from) = omega (arith, order) in
    let last : from + (to - from) ≡ p.row = omega (arith, order, row) in
    ap (run_places b from) many ∙ run-more b from (to - from)
    ∙ ap₂ (λ a k. run_places b from (to - from) ++ place a k ∷ []) (sym batch) last

pub run-grows : (j : ℕ) (bs : List (Bor Batch)) (ps : List RowLocation) (i : ℕ) (segments : List Segment)
    (b from to next : ℕ) (d : RowLocation) → i < length ps → (get_or ps i d).batch ≡ b → (get_or ps i d).row ≡ to
    → next ≡ (get_or ps i d).row + 1
    → RunSoFar j bs ps i segments b from to → RunSoFar j bs ps (i + 1) segments b from next
run-grows j bs ps i segments b from to next d h batch row is so =
    let p : RowLocation = get_or ps i d in
    let old = run_places b from (to - from) in
    let end : next ≡ to + 1 = is ∙ ap (λ k. k + 1) row in
    let grown = longer b from to p so.order batch row in
    let step : drop i ps ≡ p ∷ drop (i + 1) ps = drop_more ps i d h in
    let same : run_places b from (to + 1 - from) ++ drop (i + 1) ps ≡ old ++ drop i ps =
    ap (λ qs. qs ++ drop (i + 1) ps) grown ∙ append_assoc old (p ∷ []) (drop (i + 1) ps)
    ∙ ap (λ qs. old ++ qs) (sym step) in
    let order = so.order in
    subst (RunSoFar j bs ps (i + 1) segments b from) (sym end) (record {
      order = omega (arith, order);
      placed = λ w all. subst (All (IsLocated w bs)) (sym grown)
          (All-append (IsLocated w bs) old (p ∷ []) (so.placed w all)
          (All-cons (IsLocated w bs) p [] (All-get_or (IsLocated w bs) ps i d h all) (All-nil (IsLocated w bs))));
      width = so.width;
      cells = ap (λ qs. segments_cells segments ++ cells_at j bs qs) same ∙ so.cells;
    })

one-long : (b from : ℕ) → run_places b from (from + 1 - from) ≡ place b from ∷ []
one-long b from = let one : from + 1 - from ≡ 1 = omega arith in ap (run_places b from) one

pub run-turns : (j : ℕ) (bs : List (Bor Batch)) (ps : List RowLocation) (i : ℕ) (segments next : List Segment)
    (b from to end : ℕ) (d : RowLocation) → i < length ps → end ≡ (get_or ps i d).row + 1
    → segments_cells next ≡ segments_cells segments ++ cells_at j bs (run_places b from (to - from))
    → (All (OfSlots HasWidth) segments → All (OfSlots HasWidth) next)
    → RunSoFar j bs ps i segments b from to
    → RunSoFar j bs ps (i + 1) next (get_or ps i d).batch (get_or ps i d).row end
run-turns j bs ps i segments next b from to end d h is pushed width so =
    let p : RowLocation = get_or ps i d in
    let old = run_places b from (to - from) in
    let alone = one-long p.batch p.row in
    let step : drop i ps ≡ p ∷ drop (i + 1) ps = drop_more ps i d h in
    let same : run_places p.batch p.row (p.row + 1 - p.row) ++ drop (i + 1) ps ≡ drop i ps =
    ap (λ qs. qs ++ drop (i + 1) ps) alone ∙ sym step in
    subst (RunSoFar j bs ps (i + 1) next p.batch p.row) (sym is) (record {
      order = omega arith;
      placed = λ w all. subst (All (IsLocated w bs)) (sym alone)
          (All-cons (IsLocated w bs) p [] (All-get_or (IsLocated w bs) ps i d h all) (All-nil (IsLocated w bs)));
      width = width so.width;
      cells = ap₂ (λ cs qs. cs ++ cells_at j bs qs) pushed same
          ∙ append_assoc (segments_cells segments) (cells_at j bs old) (cells_at j bs (drop i ps))
          ∙ ap (λ cs. segments_cells segments ++ cs) (sym (cells-append j bs old (drop i ps))) ∙ so.cells;
    })
