-- The rows of a batch are read back from its body.
use Rattle.std.proofs.Common.{
  ◌≡◌,
  ℕ,
  suc,
  ◌+◌,
  ◌<◌,
  List,
  [],
  ◌∷◌,
  ◌++◌,
  length,
  get_or,
  All,
  Ok,
  refl,
  ap,
  subst,
  ◌∙◌,
  arith,
  append-nil,
}
use Rattle.std.specs.Prelude.{map}
use Rattle.std.proofs.lemmas.List.{length-map, get_or-map}
use Rattle.values.specs.Rose.{Roses, none, more, rose_size}
use Rattle.values.specs.Datum.{Datum, null, items_of}
use Rattle.values.specs.declared.layout.Layout.{Layout}
use Rattle.values.specs.Layouts.{HoldsEach}
use Rattle.array_layout.specs.declared.array.FieldNode.{FieldNode}
use Rattle.array_layout.specs.declared.array.BufferRange.{BufferRange}
use Rattle.array_layout.specs.Placing.{placed_all, ranges_in}
use Rattle.array_layout.specs.Sound.{ArePlaced}
use Rattle.schema_meta.specs.Rows.{columns_in, row_at, rows_from}
use Rattle.body_writer.specs.Slots.{part}
use Rattle.body_writer.specs.Body.{laid, ranges_from}
use Rattle.body_writer.specs.Law.{AreNodes, AreRead, HoldBuffers}
use Rattle.body_writer.specs.Batch.{row_cell, row_cells, body_nodes, body_buffers, body_ranges, body_bytes, IsBatch}
use Rattle.body_writer.proofs.Cells.{part-listed}
use Rattle.body_writer.proofs.ColumnRead.{batch-law}
use Rattle.body_writer.proofs.Rows.{rows-held, rows-light}
use Rattle.body_writer.proofs.PlaceLemmas.{buffers-stand-law, nodes-stand-law}

pub body-nodes-stand : (ls : Roses Layout) (rows : List (List Datum))
    → AreNodes (body_nodes ls rows) 0 (body_nodes ls rows)
body-nodes-stand ls rows =
    let ns = body_nodes ls rows in
    subst (λ (all : List FieldNode). AreNodes all 0 ns) (append-nil ns) (nodes-stand-law [] ns [])

-- the cells of the columns from column j on
abbrev pub columns_from : ℕ → Roses Layout → List Datum → List (List Datum)
columns_from j none cs = []
columns_from j (more t ts) cs = map (part j) cs ∷ columns_from (suc j) ts cs

pub columns-read :
    (body : List ℕ) (all : List FieldNode) (ranges : List BufferRange) (n b j : ℕ) (ts : Roses Layout) (cs : List Datum)
    → AreRead body (placed_all all ranges n b ts) j cs
    → columns_in body (placed_all all ranges n b ts) ≡ Ok (columns_from j ts cs)
unfolding columns_in
columns-read body all ranges n b j none cs r = refl
columns-read body all ranges n b j (more t ts) cs r =
    rw (r.0, columns-read body all ranges (n + rose_size t) (b + ranges_in t) (suc j) ts cs r.1) refl

-- the cells of one row from column j on

abbrev picked : ℕ → Roses Layout → List Datum → List Datum
picked j none row = []
picked j (more t ts) row = get_or row j null ∷ picked (suc j) ts row

picked-shift : (j : ℕ) (ts : Roses Layout) (c : Datum) (cs : List Datum) → picked (suc j) ts (c ∷ cs) ≡ picked j ts cs
picked-shift j none c cs = refl
picked-shift j (more t ts) c cs = ap (λ l. get_or cs j null ∷ l) (picked-shift (suc j) ts c cs)

picked-whole : (ts : Roses Layout) (row : List Datum) → HoldsEach ts (items_of row) → picked 0 ts row ≡ row
picked-whole none [] h = refl
picked-whole none (c ∷ cs) h = absurd h
picked-whole (more t ts) [] h = absurd h
picked-whole (more t ts) (c ∷ cs) h = ap (λ l. c ∷ l) (picked-shift 0 ts c cs ∙ picked-whole ts cs h.1)

-- rows

cell-back : (j i : ℕ) (rows : List (List Datum)) → i < length rows
    → get_or (map (part j) (row_cells rows)) i null ≡ get_or (get_or rows i []) j null
cell-back j i rows h =
    let same = length-map rows row_cell in
    let outer = get_or-map (part j) (row_cells rows) i (row_cell []) null (omega (arith, h, same)) in
    let inner = get_or-map row_cell rows i [] (row_cell []) h in
    outer ∙ ap (part j) inner ∙ part-listed j (get_or rows i [])

row-back : (j i : ℕ) (ts : Roses Layout) (rows : List (List Datum)) → i < length rows
    → row_at (columns_from j ts (row_cells rows)) i ≡ picked j ts (get_or rows i [])
row-back j i none rows h = refl
row-back j i (more t ts) rows h =
    let mine = cell-back j i rows h in
    let others = row-back (suc j) i ts rows h in
    rw (mine, others) refl

each-row : (cols : List (List Datum)) (i : ℕ) (rows : List (List Datum))
    → ((j m : ℕ) → i + j ≡ m → j < length rows → row_at cols m ≡ get_or rows j [])
    → rows_from cols i (length rows) ≡ rows
unfolding rows_from
each-row cols i [] h = refl
each-row cols i (row ∷ rows) h =
    let mine = h 0 i (omega arith) (omega arith) in
    let others = each-row cols (i + 1) rows (λ j m e l. h (suc j) m (omega (arith, e)) (omega (arith, l))) in
    rw (mine, others) refl

pub rows-back :
    (ts : Roses Layout) (rows : List (List Datum)) → All (λ row. HoldsEach ts (items_of row)) rows
    → rows_from (columns_from 0 ts (row_cells rows)) 0 (length rows) ≡ rows
rows-back ts rows held =
    each-row (columns_from 0 ts (row_cells rows)) 0 rows (λ j m e l.
    let P : ℕ → Type 0 = λ n. row_at (columns_from 0 ts (row_cells rows)) n ≡ get_or rows j [] in
    let same : j ≡ m = omega (arith, e) in
    subst P same (row-back 0 j ts rows l ∙ picked-whole ts (get_or rows j []) (held j [] l)))

-- the buffers of a body are in it
body-stands : (ls : Roses Layout) (rows : List (List Datum))
    → HoldBuffers (body_bytes ls rows) (body_ranges ls rows) 0 (body_buffers ls rows)
unfolding body_bytes body_ranges
body-stands ls rows =
    let xs = body_buffers ls rows in
    let P : List ℕ → Type 0 = λ bytes. HoldBuffers bytes (ranges_from 0 xs ++ []) 0 xs in
    let Q : List BufferRange → Type 0 = λ ranges. HoldBuffers (laid xs) ranges 0 xs in
    subst Q (append-nil (ranges_from 0 xs)) (subst P (append-nil (laid xs)) (buffers-stand-law [] [] [] [] xs))

pub batch-read :
    (ls : Roses Layout) (rows : List (List Datum)) → IsBatch ls rows
    → AreRead (body_bytes ls rows) (placed_all (body_nodes ls rows) (body_ranges ls rows) 0 0 ls) 0 (row_cells rows)
    × ArePlaced (body_bytes ls rows) (placed_all (body_nodes ls rows) (body_ranges ls rows) 0 0 ls)
unfolding body_nodes body_buffers
batch-read ls rows b =
    batch-law ls (row_cells rows) (body_bytes ls rows) (body_nodes ls rows) (body_ranges ls rows) 0 0 b.layouts
    (rows-held ls rows b.held)
    (rows-light ls rows b) (body-nodes-stand ls rows) (body-stands ls rows)
