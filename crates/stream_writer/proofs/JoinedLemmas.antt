-- Rows of a main table with rows of a side table beside them.
use Rattle.std.proofs.Common.{
  ◌≡◌,
  ◌⊎◌,
  ℕ,
  zero,
  suc,
  ◌+◌,
  ◌-◌,
  ◌<◌,
  ◌≤◌,
  Bool,
  true,
  false,
  List,
  [],
  ◌∷◌,
  ◌++◌,
  All,
  length,
  get_or,
  take,
  drop,
  refl,
  ap,
  ap₂,
  sym,
  subst,
  ◌∙◌,
  arith,
  inl,
  inr,
  append-nil,
}
use Rattle.std.specs.Prelude.{if◌then◌else◌, map, nat_lt}
use Rattle.std.proofs.lemmas.Bool.{cases_lt, cond-false, cond-true, le-ltb, lt-ltb}
use Rattle.std.proofs.lemmas.List.{drop-map, get_or-append_right, get_or-map, get_or_append_left, length-drop, length-map, length-take, take-map}
use Rattle.std.proofs.lemmas.List.Elements.{All-cons, All-drop, All-get_or, All-head, All-nil, All-tail, All-take, All-weaker}
use Rattle.std.proofs.lemmas.Option.{none-some, same_Some}
use denote.Ref.{Bor}
use Rattle.values.specs.Datum.{Datum, null}
use Rattle.body_writer.specs.Batch.{row_cell, row_cells}
use Rattle.body_writer.specs.Locations.{AreFound, AreLocated, HasRow, HaveColumn, IsLocated, IsRowAt, column_at, located_row, row_in, rows_at}
use Rattle.body_writer.specs.RowRanges.{cells_in}
use Rattle.body_writer.specs.Slots.{part}
use Rattle.body_writer.specs.declared.from_columns.batch.Batch.{Batch}
use Rattle.body_writer.specs.declared.from_locations.location.LocatedRows.{LocatedRows}
use Rattle.body_writer.specs.declared.from_locations.location.RowLocation.{RowLocation}
use Rattle.body_writer.specs.declared.from_locations.plain.BatchArrays.{BatchArrays}
use Rattle.body_writer.proofs.Cells.{part-listed}
use Rattle.body_writer.specs.Picked.{beside}
use Rattle.stream_writer.specs.JoinedRows.{AreArrays, HaveAlone, HaveJoined, IsFirst, IsPart, IsRest, half, joined_rows, place_of}
use Rattle.stream_writer.specs.declared.joined_rows.JoinedRows.{JoinedRows}

-- the table that has a column

pub record InMain (r : JoinedRows) (j : ℕ) : Type 0 where
  pub low : j < r.width
  pub rows : half r j ≡ r.main
  pub place : place_of r j ≡ j

pub record InSide (r : JoinedRows) (j : ℕ) : Type 0 where
  pub high : r.width ≤ j
  pub rows : half r j ≡ r.side
  pub place : place_of r j ≡ j - r.width

pub in-main : (r : JoinedRows) (j : ℕ) → j < r.width → InMain r j
in-main r j low = record {
  low = low;
  rows = cond-true (nat_lt j r.width) r.main r.side (lt-ltb j r.width low);
  place = cond-true (nat_lt j r.width) j (j - r.width) (lt-ltb j r.width low);
}

pub in-side : (r : JoinedRows) (j : ℕ) → r.width ≤ j → InSide r j
in-side r j high = record {
  high = high;
  rows = cond-false (nat_lt j r.width) r.main r.side (le-ltb j r.width high);
  place = cond-false (nat_lt j r.width) j (j - r.width) (le-ltb j r.width high);
}

in-one : (r : JoinedRows) (j : ℕ) → InMain r j ⊎ InSide r j
in-one r j = elim (cases_lt j r.width) [
  | inl low ↦ inl (in-main r j low)
  | inr high ↦ inr (in-side r j high)
]

-- the cells of a column

main-cells : (w j : ℕ) (ms ss : List (List Datum)) → j < w → All (λ (row : List Datum). length row ≡ w) ms
    → length ss ≡ length ms → map (part j) (row_cells (beside ms ss)) ≡ map (part j) (row_cells ms)
main-cells w j [] ss low wide many = refl
main-cells w j (m ∷ ms) [] low wide many = absurd (omega (arith, many))
main-cells w j (m ∷ ms) (s ∷ ss) low wide many =
    let W : List Datum → Type 0 = λ row. length row ≡ w in
    let long = All-head W m ms wide in
    let here : part j (row_cell (m ++ s)) ≡ part j (row_cell m) =
    part-listed j (m ++ s) ∙ get_or_append_left m s null j (omega (arith, low, long)) ∙ sym (part-listed j m) in
    ap₂ (λ d ds. d ∷ ds) here (main-cells w j ms ss low (All-tail W m ms wide) (omega (arith, many)))

side-cells : (w j : ℕ) (ms ss : List (List Datum)) → w ≤ j → All (λ (row : List Datum). length row ≡ w) ms
    → length ss ≡ length ms → map (part j) (row_cells (beside ms ss)) ≡ map (part (j - w)) (row_cells ss)
side-cells w j [] [] high wide many = refl
side-cells w j [] (s ∷ ss) high wide many = absurd (omega (arith, many))
side-cells w j (m ∷ ms) [] high wide many = absurd (omega (arith, many))
side-cells w j (m ∷ ms) (s ∷ ss) high wide many =
    let W : List Datum → Type 0 = λ row. length row ≡ w in
    let here : part j (row_cell (m ++ s)) ≡ part (j - w) (row_cell s) =
    part-listed j (m ++ s) ∙ get_or-append_right m s w j null (All-head W m ms wide) high
    ∙ sym (part-listed (j - w) s) in
    ap₂ (λ d ds. d ∷ ds) here (side-cells w j ms ss high (All-tail W m ms wide) (omega (arith, many)))

-- the main rows

there-placed : (n : ℕ) (bs : List (Bor Batch)) (p : RowLocation) → IsRowAt n bs p → IsLocated n bs p
there-placed n bs p is batch there =
    subst (λ (b : Bor Batch). HasRow n p.row b.now) (same_Some is.batch batch (sym is.there ∙ there)) is.row

there-long : (n : ℕ) (bs : List (Bor Batch)) (p : RowLocation) → IsRowAt n bs p → length (located_row bs p) ≡ n
there-long n bs p is =
    let cs = is.batch.now.columns.items in
    ap (λ o. length (row_in o p.row)) is.there ∙ length-map (cells_in cs) (λ c. get_or c p.row null)
    ∙ length-map cs (λ c. c.cells) ∙ is.row.sized.columns

main-wide : (n : ℕ) (bs : List (Bor Batch)) (ps : List RowLocation) → All (IsRowAt n bs) ps
    → All (λ (row : List Datum). length row ≡ n) (map (located_row bs) ps)
main-wide n bs [] all = All-nil (λ (row : List Datum). length row ≡ n)
main-wide n bs (p ∷ ps) all =
    All-cons (λ (row : List Datum). length row ≡ n) (located_row bs p) (map (located_row bs) ps)
    (there-long n bs p (All-head (IsRowAt n bs) p ps all)) (main-wide n bs ps (All-tail (IsRowAt n bs) p ps all))

main-placed : (n : ℕ) (r : LocatedRows) → All (IsRowAt n r.batches.now) r.locations.now → AreLocated n r
main-placed n r all =
    All-weaker (IsRowAt n r.batches.now) (IsLocated n r.batches.now) (there-placed n r.batches.now) r.locations.now all

rows-many : (r : JoinedRows) → length r.side.locations.now ≡ length r.main.locations.now
    → length (rows_at r.side) ≡ length (rows_at r.main)
rows-many r many =
    length-map r.side.locations.now (located_row r.side.batches.now) ∙ many
    ∙ sym (length-map r.main.locations.now (located_row r.main.batches.now))

pub joined-column : (columns : List ℕ) (r : JoinedRows) (j : ℕ) → HaveJoined columns r
    → map (part j) (row_cells (joined_rows r)) ≡ column_at (place_of r j) (half r j)
joined-column columns r j have =
    let many = rows-many r have.many in
    let wide = main-wide r.width r.main.batches.now r.main.locations.now have.main in
    elim (in-one r j) [
      | inl main ↦
          main-cells r.width j (rows_at r.main) (rows_at r.side) main.low wide many
          ∙ sym (ap₂ column_at main.place main.rows)
      | inr side ↦
          side-cells r.width j (rows_at r.main) (rows_at r.side) side.high wide many
          ∙ sym (ap₂ column_at side.place side.rows)
    ]

column-as : (r : JoinedRows) (j k : ℕ) (rows : LocatedRows) → half r j ≡ rows → place_of r j ≡ k → HaveColumn k rows
    → HaveColumn (place_of r j) (half r j)
column-as r j k rows same place have =
    subst (λ i. HaveColumn i (half r j)) (sym place) (subst (HaveColumn k) (sym same) have)

pub joined-have : (columns : List ℕ) (r : JoinedRows) (j : ℕ) (have : HaveJoined columns r) → j < r.width + have.more
    → HaveColumn (place_of r j) (half r j)
joined-have columns r j have below = elim (in-one r j) [
  | inl main ↦
      column-as r j j r.main main.rows main.place
      (record { width = r.width; below = main.low; placed = main-placed r.width r.main have.main })
  | inr side ↦
      column-as r j (j - r.width) r.side side.rows side.place
      (record { width = have.more; below = omega (arith, below, side.high); placed = have.side })
]

pub column-below : (columns : List ℕ) (r : JoinedRows) (i : ℕ) (have : HaveJoined columns r) → i < length columns
    → get_or columns i 0 < r.width + have.more
column-below columns r i have h = All-get_or (λ j. j < r.width + have.more) columns i 0 h have.below

pub half-many : (columns : List ℕ) (r : JoinedRows) (j : ℕ) → HaveJoined columns r
    → length (half r j).locations.now ≡ length r.main.locations.now
half-many columns r j have = elim (in-one r j) [
  | inl main ↦ ap (λ (rows : LocatedRows). length rows.locations.now) main.rows
  | inr side ↦ ap (λ (rows : LocatedRows). length rows.locations.now) side.rows ∙ have.many
]

-- how many there are

beside-many : (ms ss : List (List Datum)) → length ss ≡ length ms → length (beside ms ss) ≡ length ms
beside-many [] ss many = refl
beside-many (m ∷ ms) [] many = absurd (omega (arith, many))
beside-many (m ∷ ms) (s ∷ ss) many = ap suc (beside-many ms ss (omega (arith, many)))

pub joined-many : (columns : List ℕ) (r : JoinedRows) → HaveJoined columns r
    → length (joined_rows r) ≡ length r.main.locations.now
joined-many columns r have =
    beside-many (rows_at r.main) (rows_at r.side) (rows-many r have.many)
    ∙ length-map r.main.locations.now (located_row r.main.batches.now)

-- some of them

beside-taken : (n : ℕ) (ms ss : List (List Datum)) → take n (beside ms ss) ≡ beside (take n ms) (take n ss)
beside-taken zero ms ss = refl
beside-taken (suc n) [] ss = refl
beside-taken (suc n) (m ∷ ms) [] = refl
beside-taken (suc n) (m ∷ ms) (s ∷ ss) = ap (λ rows. (m ++ s) ∷ rows) (beside-taken n ms ss)

beside-none : (ms : List (List Datum)) → [] ≡ beside ms []
beside-none [] = refl
beside-none (m ∷ ms) = refl

beside-dropped : (n : ℕ) (ms ss : List (List Datum)) → drop n (beside ms ss) ≡ beside (drop n ms) (drop n ss)
beside-dropped zero ms ss = refl
beside-dropped (suc n) [] ss = refl
beside-dropped (suc n) (m ∷ ms) [] = beside-none (drop n ms)
beside-dropped (suc n) (m ∷ ms) (s ∷ ss) = beside-dropped n ms ss

rows-part : (part : List RowLocation → List RowLocation) (old new : LocatedRows) → new.batches ≡ old.batches
    → new.locations.now ≡ part old.locations.now → rows_at new ≡ map (located_row old.batches.now) (part old.locations.now)
rows-part part old new batches locations =
    ap (λ (bs : Bor (List (Bor Batch))). map (located_row bs.now) new.locations.now) batches
    ∙ ap (map (located_row old.batches.now)) locations

pub joined-first : (n : ℕ) (old new : JoinedRows) → IsFirst n old new
    → joined_rows new ≡ take n (joined_rows old)
joined-first n old new is =
    ap₂ beside
    (rows-part (take n) old.main new.main is.main_batches is.main
    ∙ sym (take-map (located_row old.main.batches.now) n old.main.locations.now))
    (rows-part (take n) old.side new.side is.side_batches is.side
    ∙ sym (take-map (located_row old.side.batches.now) n old.side.locations.now))
    ∙ sym (beside-taken n (rows_at old.main) (rows_at old.side))

pub joined-rest : (n : ℕ) (old new : JoinedRows) → IsRest n old new
    → joined_rows new ≡ drop n (joined_rows old)
joined-rest n old new is =
    ap₂ beside
    (rows-part (drop n) old.main new.main is.main_batches is.main
    ∙ sym (drop-map (located_row old.main.batches.now) n old.main.locations.now))
    (rows-part (drop n) old.side new.side is.side_batches is.side
    ∙ sym (drop-map (located_row old.side.batches.now) n old.side.locations.now))
    ∙ sym (beside-dropped n (rows_at old.main) (rows_at old.side))

-- and what is known of these

-- which preserves what holds of all, and takes as many of as many
record Keeps (part : List RowLocation → List RowLocation) : Type 1 where
  all : (P : RowLocation → Type 0) (ps : List RowLocation) → All P ps → All P (part ps)
  many : (ps qs : List RowLocation) → length ps ≡ length qs → length (part ps) ≡ length (part qs)

taken-keeps : (n : ℕ) → Keeps (take n)
taken-keeps n = record {
  all = λ P ps all. All-take P n ps all;
  many = λ ps qs e.
      let a = length-take n ps in
      let b = length-take n qs in
      omega (arith, a, b, e);
}

dropped-keeps : (n : ℕ) → Keeps (drop n)
dropped-keeps n = record {
  all = λ P ps all. All-drop P n ps all;
  many = λ ps qs e.
      let a = length-drop n ps in
      let b = length-drop n qs in
      omega (arith, a, b, e);
}

placed-part : (part : List RowLocation → List RowLocation) → Keeps part → (n : ℕ) (old new : LocatedRows)
    → new.batches ≡ old.batches → new.locations.now ≡ part old.locations.now → AreLocated n old → AreLocated n new
placed-part part keeps n old new batches locations all =
    subst (λ (bs : Bor (List (Bor Batch))). All (IsLocated n bs.now) new.locations.now) (sym batches)
    (subst (All (IsLocated n old.batches.now)) (sym locations)
    (keeps.all (IsLocated n old.batches.now) old.locations.now all))

have-part : (part : List RowLocation → List RowLocation) → Keeps part → (columns : List ℕ) (old new : JoinedRows)
    → IsPart part old new → HaveJoined columns old → HaveJoined columns new
have-part part keeps columns old new is have =
    let main : All (IsRowAt old.width new.main.batches.now) new.main.locations.now =
    subst (λ (bs : Bor (List (Bor Batch))). All (IsRowAt old.width bs.now) new.main.locations.now) (sym is.main_batches)
    (subst (All (IsRowAt old.width old.main.batches.now)) (sym is.main)
    (keeps.all (IsRowAt old.width old.main.batches.now) old.main.locations.now have.main)) in
    record {
      many = ap length is.side ∙ keeps.many old.side.locations.now old.main.locations.now have.many ∙ sym (ap length is.main);
      main = subst (λ w. All (IsRowAt w new.main.batches.now) new.main.locations.now) (sym is.width) main;
      more = have.more;
      side = placed-part part keeps have.more old.side new.side is.side_batches is.side have.side;
      below = subst (λ w. All (λ j. j < w + have.more) columns) (sym is.width) have.below;
    }

pub have-first : (n : ℕ) (columns : List ℕ) (old new : JoinedRows) → IsFirst n old new → HaveJoined columns old
    → HaveJoined columns new
have-first n columns old new is have = have-part (take n) (taken-keeps n) columns old new is have

pub have-rest : (n : ℕ) (columns : List ℕ) (old new : JoinedRows) → IsRest n old new → HaveJoined columns old
    → HaveJoined columns new
have-rest n columns old new is have = have-part (drop n) (dropped-keeps n) columns old new is have

-- the arrays of some of them

same-batches : (part : List RowLocation → List RowLocation) (old new : JoinedRows) (j : ℕ) → IsPart part old new
    → (half old j).batches ≡ (half new j).batches
same-batches part old new j is =
    sym (ap (λ w. (if nat_lt j w then new.main else new.side).batches) is.width ∙ by (nat_lt j old.width))
  where
    by : (b : Bool) → (if b then new.main else new.side).batches ≡ (if b then old.main else old.side).batches
    by true = is.main_batches
    by false = is.side_batches

pub arrays-part : (part : List RowLocation → List RowLocation) (old new : JoinedRows) (js : List ℕ) (ss : List BatchArrays)
    → IsPart part old new → AreArrays old js ss → AreArrays new js ss
arrays-part part old new [] [] is are = tt
arrays-part part old new [] (s ∷ ss) is are = absurd are
arrays-part part old new (j ∷ js) [] is are = absurd are
arrays-part part old new (j ∷ js) (s ∷ ss) is are = (
  record {
    found = subst (λ (bs : Bor (List (Bor Batch))). AreFound bs.now s) (same-batches part old new j is) are.0.found;
    column = are.0.column ∙ sym (ap (λ w. if nat_lt j w then j else j - w) is.width);
  },
  arrays-part part old new js ss is are.1,
)

-- one cell of them

cell-at : (j : ℕ) (rows : List (List Datum)) (i : ℕ) → i < length rows
    → get_or (map (part j) (row_cells rows)) i null ≡ get_or (get_or rows i []) j null
cell-at j [] i below = absurd (omega (arith, below))
cell-at j (row ∷ rows) zero below = part-listed j row
cell-at j (row ∷ rows) (suc i) below = cell-at j rows i (omega (arith, below))

pub column-cell : (j : ℕ) (r : LocatedRows) (i : ℕ) (p : RowLocation) → i < length r.locations.now
    → get_or (column_at j r) i null ≡ get_or (located_row r.batches.now (get_or r.locations.now i p)) j null
column-cell j r i p below =
    let row : RowLocation → List Datum = located_row r.batches.now in
    let many = length-map r.locations.now row in
    cell-at j (map row r.locations.now) i (omega (arith, below, many))
    ∙ ap (λ ds. get_or ds j null) (get_or-map row r.locations.now i p [] below)

pub joined-cell : (columns : List ℕ) (r : JoinedRows) (i j : ℕ) → HaveJoined columns r
    → i < length r.main.locations.now
    → get_or (column_at (place_of r j) (half r j)) i null ≡ get_or (get_or (joined_rows r) i []) j null
joined-cell columns r i j have below =
    let many = joined-many columns r have in
    ap (λ ds. get_or ds i null) (sym (joined-column columns r j have))
    ∙ cell-at j (joined_rows r) i (omega (arith, below, many))

-- rows without rows beside them

pub beside-nothing : (bs : List (Bor Batch)) (ps : List RowLocation)
    → beside (map (located_row bs) ps) (map (located_row []) ps) ≡ map (located_row bs) ps
beside-nothing bs [] = refl
beside-nothing bs (p ∷ ps) =
    ap₂ (λ row rows. row ∷ rows) (append-nil (located_row bs p)) (beside-nothing bs ps)

nowhere : (n : ℕ) (ps : List RowLocation) → All (IsLocated n []) ps
nowhere n [] = All-nil (IsLocated n [])
nowhere n (p ∷ ps) = All-cons (IsLocated n []) p ps (λ b there. absurd (none-some b there)) (nowhere n ps)

pub have-alone : (columns : List ℕ) (r : JoinedRows) → r.side.batches.now ≡ [] → r.side.locations ≡ r.main.locations
    → HaveAlone columns r.width r.main → HaveJoined columns r
have-alone columns r none same have = record {
  many = ap (λ (ps : Bor (List RowLocation)). length ps.now) same;
  main = have.main;
  more = 0;
  side = subst (λ bs. All (IsLocated 0 bs) r.side.locations.now) (sym none) (nowhere 0 r.side.locations.now);
  below = All-weaker (λ j. j < r.width) (λ j. j < r.width + 0) (λ j low. omega (arith, low)) columns have.below;
}
