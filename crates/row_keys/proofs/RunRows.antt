-- Rows that lie one after the other in a chunk.
use Rattle.std.proofs.Common.{◌≡◌, ℕ, zero, suc, ◌+◌, ◌-◌, ◌<◌, ◌≤◌, All, Bool, true, false, Some, List, [], ◌∷◌, ◌++◌, drop, get_or, length, length-drop, take, refl, ap, ap₂, sym, subst, ◌∙◌, append_assoc, append-nil, arith}
use Rattle.std.specs.Prelude.{if◌then◌else◌, map, slice_get}
use Rattle.std.proofs.lemmas.List.{get_or-drop, map-append, take_all, take_more}
use Rattle.std.proofs.lemmas.List.Concat.{flat_map-append}
use Rattle.std.proofs.lemmas.List.Elements.{All-append, All-cons, All-nil}
use Rattle.std.proofs.lemmas.Option.{get_or_from_slice_get, none-some}
use Rattle.values.specs.Datum.{Datum}
use Rattle.arrays.specs.Checked.{CheckedColumn}
use Rattle.schema_meta.specs.Rows.{row_at, rows_in}
use Rattle.body_writer.specs.RowRanges.{IsRange, range_rows, ranges_rows}
use Rattle.body_writer.specs.declared.from_columns.batch.Batch.{Batch}
use Rattle.body_writer.specs.declared.from_columns.batch.RowRange.{RowRange}
use Rattle.body_writer.proofs.PickedLemmas.{rows-at}
use Rattle.row_keys.specs.Batches.{batch_rows, cells_in}
use Rattle.row_keys.specs.Chunks.{AreChunks, AreRising, Chunk, IsLong, LiesAt, LiesIn, chunk_row, number_row, row_in, stored_rows}
use Rattle.row_keys.specs.Runs.{HasRun, IsWideAt, rows_at, run_rows}
use Rattle.row_keys.proofs.RowsOfChunks.{ends_within, row_after, row_within}
use Rattle.row_keys.proofs.ChunkedRows.{stored_at}
use Rattle.row_keys.proofs.GatheredRows.{rows_counted}
use Rattle.row_keys.proofs.Places.{some_same}

pub rows_there : (cs : List Chunk) (p : ℕ) (c : Chunk) → slice_get cs p ≡ Some c
    → rows_at cs p ≡ batch_rows c.rows c.columns
rows_there [] p c there = absurd (none-some c there)
rows_there (d ∷ cs) zero c there = ap (λ (x : Chunk). batch_rows x.rows x.columns) (some_same d c there)
rows_there (d ∷ cs) (suc p) c there = rows_there cs p c there

-- the row of a number where it lies
pub record IsLying (cs : List Chunk) (n p i : ℕ) : Type 0 where
  pub has : HasRun cs p (i + 1)
  pub row : get_or (rows_at cs p) i [] ≡ row_in cs n
  pub below : i < length (rows_at cs p)
  pub wide : (w : ℕ) → length (row_in cs n) ≡ w → IsWideAt cs p w

pub cells_many : (columns : List CheckedColumn) (i : ℕ) → length (row_at (cells_in columns) i) ≡ length columns
cells_many [] i = refl
cells_many (c ∷ cs) i = ap suc (cells_many cs i)

lying_in :
    (cs : List Chunk) (n p i : ℕ) (c : Chunk) → slice_get cs p ≡ Some c → IsLong c → i < length c.gone
    → row_in cs n ≡ row_at (cells_in c.columns) i → IsLying cs n p i
lying_in cs n p i c there long within is =
    let few = long.few in
    let cells = cells_in c.columns in
    let all = rows_there cs p c there in
    let many : length (rows_at cs p) ≡ c.rows = ap length all ∙ rows_counted cells 0 c.rows in
    let from : 0 + i ≡ i = omega arith in
    record {
      has = record { chunk = c; there = there; long = long; within = omega (arith, within) };
      row = ap (λ rs. get_or rs i []) all ∙ rows-at cells 0 c.rows i [] (omega (arith, within, few))
          ∙ ap (row_at cells) from ∙ sym is;
      below = omega (arith, many, within, few);
      wide = λ w size d at.
          ap (λ (x : Chunk). length x.columns) (some_same d c (sym at ∙ there)) ∙ sym (cells_many c.columns i)
          ∙ ap length (sym is) ∙ size;
    }

pub lying : (cs : List Chunk) (n p i : ℕ) → LiesAt cs n p i → 0 < length (row_in cs n) → IsLying cs n p i
lying cs n p i at kept =
    let c : Chunk = at.lies.chunk in
    let row : row_in cs n ≡ chunk_row c i = at.lies.row ∙ ap (chunk_row c) at.place in
    by (get_or c.gone i true) row
  where
    by : (b : Bool)
        → row_in cs n ≡ (if b then [] else row_at (cells_in at.lies.chunk.columns) i) → IsLying cs n p i
    by true row = let none = ap length row in absurd (omega (arith, none, kept))
    by false row = lying_in cs n p i at.lies.chunk at.lies.there at.lies.long at.within row

run_more : (cs : List Chunk) (p from to : ℕ) → from ≤ to → to < length (rows_at cs p)
    → run_rows cs p from (to + 1) ≡ run_rows cs p from to ++ get_or (rows_at cs p) to [] ∷ []
run_more cs p from to order below =
    let X : List (List Datum) = rows_at cs p in
    let k : ℕ = to - from in
    let next : (to + 1) - from ≡ k + 1 = omega (arith, order) in
    let at : from + k ≡ to = omega (arith, order) in
    let behind = length-drop from X in
    ap (λ m. take m (drop from X)) next ∙ take_more (drop from X) k [] (omega (arith, behind, below, order))
    ∙ ap (λ row. take k (drop from X) ++ row ∷ []) (get_or-drop from X k [] ∙ ap (λ m. get_or X m []) at)

pub run_none : (cs : List Chunk) (p from to : ℕ) → to ≤ from → run_rows cs p from to ≡ []
run_none cs p from to past =
    let none : to - from ≡ 0 = omega (arith, past) in ap (λ m. take m (drop from (rows_at cs p))) none

run_one : (cs : List Chunk) (p i : ℕ) → i < length (rows_at cs p)
    → run_rows cs p i (i + 1) ≡ get_or (rows_at cs p) i [] ∷ []
run_one cs p i below =
    run_more cs p i i (omega arith) below
    ∙ ap (λ rs. rs ++ get_or (rows_at cs p) i [] ∷ []) (run_none cs p i i (omega arith))

-- A run as a range of its chunk's batch

run_range :
    (cs : List Chunk) (p to : ℕ) (r : RowRange) (c : Chunk) → slice_get cs p ≡ Some c → c.rows ≡ r.batch.now.rows
    → c.columns ≡ r.batch.now.columns.items → r.to ≡ to → range_rows r ≡ run_rows cs p r.from to
run_range cs p to r c there rows columns end =
    let b : Batch = r.batch.now in
    let all : rows_at cs p ≡ batch_rows b.rows b.columns.items =
    rows_there cs p c there ∙ ap (λ n. batch_rows n c.columns) rows ∙ ap (λ ks. batch_rows b.rows ks) columns in
    ap (λ t. take (t - r.from) (drop r.from (rows_in b.rows (cells_in b.columns.items)))) end
    ∙ ap (λ rs. take (to - r.from) (drop r.from rs)) (sym all)

run_sized :
    (cs : List Chunk) (p to w : ℕ) (r : RowRange) (c : Chunk) → slice_get cs p ≡ Some c → c.rows ≡ r.batch.now.rows
    → c.columns ≡ r.batch.now.columns.items → r.to ≡ to → r.from ≤ to → HasRun cs p to → IsWideAt cs p w
    → IsRange w r
run_sized cs p to w r c there rows columns end order has wide =
    let same : has.chunk ≡ c = some_same has.chunk c (sym has.there ∙ there) in
    let long : IsLong c = subst IsLong same has.long in
    let few = long.few in
    let within : to ≤ length c.gone = subst (λ (x : Chunk). to ≤ length x.gone) same has.within in
    record {
      sized = record {
        columns = ap length (sym columns) ∙ wide c there;
        cells =
            subst (λ ks. All (λ k. length k.cells ≡ r.batch.now.rows) ks) columns
            (subst (λ m. All (λ k. length k.cells ≡ m) c.columns) rows long.long);
      };
      order = omega (arith, order, end);
      within = omega (arith, within, few, rows, end);
    }

ranges_more : (rs : List RowRange) (r : RowRange) → ranges_rows (rs ++ r ∷ []) ≡ ranges_rows rs ++ range_rows r
ranges_more rs r = flat_map-append range_rows rs (r ∷ []) ∙ ap (λ cs. ranges_rows rs ++ cs) (append-nil (range_rows r))

all_more : (w : ℕ) (rs : List RowRange) (r : RowRange) → All (IsRange w) rs → IsRange w r
    → All (IsRange w) (rs ++ r ∷ [])
all_more w rs r all one =
    All-append (IsRange w) rs (r ∷ []) all (All-cons (IsRange w) r [] one (All-nil (IsRange w)))

pub run_pushed :
    (cs : List Chunk) (p from to : ℕ) (c : Chunk) (old new : List RowRange) (r : RowRange) → new ≡ old ++ r ∷ []
    → slice_get cs p ≡ Some c → c.rows ≡ r.batch.now.rows → c.columns ≡ r.batch.now.columns.items → r.from ≡ from
    → r.to ≡ to → ranges_rows new ≡ ranges_rows old ++ run_rows cs p from to
run_pushed cs p from to c old new r grown there rows columns begin end =
    ap ranges_rows grown ∙ ranges_more old r
    ∙ ap (λ rs. ranges_rows old ++ rs)
    (run_range cs p to r c there rows columns end ∙ ap (λ f. run_rows cs p f to) begin)

pub run_pushed_sized :
    (cs : List Chunk) (p from to w : ℕ) (c : Chunk) (old new : List RowRange) (r : RowRange) → new ≡ old ++ r ∷ []
    → slice_get cs p ≡ Some c → c.rows ≡ r.batch.now.rows → c.columns ≡ r.batch.now.columns.items → r.from ≡ from
    → r.to ≡ to → from ≤ to → HasRun cs p to → IsWideAt cs p w → All (IsRange w) old → All (IsRange w) new
run_pushed_sized cs p from to w c old new r grown there rows columns begin end order has wide all =
    subst (All (IsRange w)) (sym grown)
    (all_more w old r all (run_sized cs p to w r c there rows columns end (omega (arith, begin, order)) has wide))

-- The ranges of some numbers, and the run that comes after them

abbrev HaveWidth : List Chunk → ℕ → List ℕ → Type 0
HaveWidth cs w numbers = All (λ n. length (row_in cs n) ≡ w) numbers

pub record RunSoFar (cs : List Chunk) (numbers : List ℕ) (i : ℕ) (ranges : List RowRange) (p from to : ℕ) : Type 0 where
  pub rows : ranges_rows ranges ++ run_rows cs p from to ≡ map (row_in cs) (take i numbers)
  pub order : from ≤ to
  pub there : from < to → HasRun cs p to
  pub sized : (w : ℕ) → HaveWidth cs w numbers → All (IsRange w) ranges
  pub wide : (w : ℕ) → HaveWidth cs w numbers → from < to → IsWideAt cs p w

pub run_first : (cs : List Chunk) (numbers : List ℕ) (ranges : List RowRange) → ranges ≡ []
    → RunSoFar cs numbers 0 ranges 0 0 0
run_first cs numbers ranges none = record {
  rows = ap (λ rs. ranges_rows rs ++ run_rows cs 0 0 0) none ∙ run_none cs 0 0 0 (omega arith);
  order = omega arith;
  there = λ some. absurd (omega (arith, some));
  sized = λ w all. subst (All (IsRange w)) (sym none) (All-nil (IsRange w));
  wide = λ w all some. absurd (omega (arith, some));
}

one_more : (cs : List Chunk) (numbers : List ℕ) (i n : ℕ) → i < length numbers → n ≡ get_or numbers i 0
    → map (row_in cs) (take (i + 1) numbers) ≡ map (row_in cs) (take i numbers) ++ row_in cs n ∷ []
one_more cs numbers i n below is =
    ap (map (row_in cs)) (take_more numbers i 0 below ∙ ap (λ m. take i numbers ++ m ∷ []) (sym is))
    ∙ map-append (row_in cs) (take i numbers) (n ∷ [])

width_at : (cs : List Chunk) (numbers : List ℕ) (i n w : ℕ) → i < length numbers → n ≡ get_or numbers i 0
    → HaveWidth cs w numbers → length (row_in cs n) ≡ w
width_at cs numbers i n w below is all = ap (λ m. length (row_in cs m)) is ∙ all i 0 below

pub run_grows :
    (cs : List Chunk) (numbers : List ℕ) (i n : ℕ) (ranges : List RowRange) (p from to q j : ℕ)
    → i < length numbers → n ≡ get_or numbers i 0 → LiesAt cs n q j → 0 < length (row_in cs n) → q ≡ p → j ≡ to
    → RunSoFar cs numbers i ranges p from to → RunSoFar cs numbers (i + 1) ranges p from (to + 1)
run_grows cs numbers i n ranges p from to q j below is at kept place index so_far =
    let lies : IsLying cs n p to =
    subst (λ k. IsLying cs n p k) index (subst (λ k. IsLying cs n k j) place (lying cs n q j at kept)) in
    let order = so_far.order in
    record {
      rows =
          ap (λ rs. ranges_rows ranges ++ rs)
          (run_more cs p from to order lies.below ∙ ap (λ row. run_rows cs p from to ++ row ∷ []) lies.row)
          ∙ sym (append_assoc (ranges_rows ranges) (run_rows cs p from to) (row_in cs n ∷ []))
          ∙ ap (λ rs. rs ++ row_in cs n ∷ []) so_far.rows ∙ sym (one_more cs numbers i n below is);
      order = omega (arith, order);
      there = λ some. lies.has;
      sized = so_far.sized;
      wide = λ w all some. lies.wide w (width_at cs numbers i n w below is all);
    }

pub run_turns :
    (cs : List Chunk) (numbers : List ℕ) (i n : ℕ) (ranges new : List RowRange) (p from to q j : ℕ)
    → i < length numbers → n ≡ get_or numbers i 0 → LiesAt cs n q j → 0 < length (row_in cs n)
    → ranges_rows new ≡ ranges_rows ranges ++ run_rows cs p from to
    → ((w : ℕ) → (from < to → IsWideAt cs p w) → All (IsRange w) ranges → All (IsRange w) new)
    → RunSoFar cs numbers i ranges p from to → RunSoFar cs numbers (i + 1) new q j (j + 1)
run_turns cs numbers i n ranges new p from to q j below is at kept grown sized so_far =
    let lies = lying cs n q j at kept in
    record {
      rows =
          ap (λ rs. ranges_rows new ++ rs) (run_one cs q j lies.below ∙ ap (λ row. row ∷ []) lies.row)
          ∙ ap (λ rs. rs ++ row_in cs n ∷ []) (grown ∙ so_far.rows) ∙ sym (one_more cs numbers i n below is);
      order = omega arith;
      there = λ some. lies.has;
      sized = λ w all. sized w (so_far.wide w all) (so_far.sized w all);
      wide = λ w all some. lies.wide w (width_at cs numbers i n w below is all);
    }

pub run_last :
    (cs : List Chunk) (numbers : List ℕ) (i : ℕ) (ranges new : List RowRange) (p from to : ℕ) → length numbers ≤ i
    → ranges_rows new ≡ ranges_rows ranges ++ run_rows cs p from to → RunSoFar cs numbers i ranges p from to
    → ranges_rows new ≡ map (row_in cs) numbers
run_last cs numbers i ranges new p from to end grown so_far =
    grown ∙ so_far.rows ∙ ap (map (row_in cs)) (take_all i numbers end)

-- A number that a chunk has lies in it.

near_row : (from len : ℕ) (cs : List Chunk) (p n : ℕ) (c : Chunk) → AreChunks from cs len → slice_get cs p ≡ Some c
    → c.first ≤ n → n < c.first + c.span → IsLong c × (from ≤ c.first) × (row_in cs n ≡ number_row c n)
near_row from len [] p n c are there low high = absurd (none-some c there)
near_row from len (d ∷ cs) zero n c are there low high =
    let same : d ≡ c = some_same d c there in
    let P : Chunk → Type 0 = λ x. IsLong x × (from ≤ x.first) × (row_in (d ∷ cs) n ≡ number_row x n) in
    let low_d : d.first ≤ n = subst (λ (x : Chunk). x.first ≤ n) (sym same) low in
    let high_d : n < d.first + d.span = subst (λ (x : Chunk). n < x.first + x.span) (sym same) high in
    subst P same (are.1, are.0, row_within d cs n low_d high_d)
near_row from len (d ∷ cs) (suc p) n c are there low high =
    let rest = near_row (d.first + d.span) len cs p n c are.2 there low high in
    let first = are.0 in
    let after = rest.1 in
    (rest.0, omega (arith, first, after), row_after d cs n (omega (arith, after, low)) ∙ rest.2)

pub near_lies : (from len : ℕ) (cs : List Chunk) (p n : ℕ) (c : Chunk) → AreChunks from cs len
    → slice_get cs p ≡ Some c → c.first ≤ n → n < c.first + c.span → LiesIn cs n p
near_lies from len cs p n c are there low high =
    let near = near_row from len cs p n c are there low high in
    record { chunk = c; there = there; from = low; below = high; long = near.0; row = near.2 }

-- the rows of all numbers as they are stored
pub stored_as : (cs : List Chunk) (len : ℕ) (rows : List (List Datum)) → AreChunks 0 cs len → stored_rows cs len ≡ rows
    → (n : ℕ) → row_in cs n ≡ get_or rows n []
stored_as cs len rows are same = λ n.
    sym (stored_at cs len n are) ∙ ap (λ (rs : List (List Datum)). get_or rs n []) same

pub mapped_as : (f g : ℕ → List Datum) (numbers : List ℕ) → ((n : ℕ) → f n ≡ g n) → map f numbers ≡ map g numbers
mapped_as f g [] same = refl
mapped_as f g (n ∷ ns) same = ap₂ (λ x xs. x ∷ xs) (same n) (mapped_as f g ns same)

-- the chunk of a run, as indexing gives it
pub run_at : (cs : List Chunk) (p to : ℕ) (c : Chunk) → c ≡ get_or cs p c → HasRun cs p to → slice_get cs p ≡ Some c
run_at cs p to c is has =
    let same : c ≡ has.chunk = is ∙ get_or_from_slice_get cs p has.chunk c has.there in
    has.there ∙ ap Some (sym same)

-- A row's index fits into a machine word.

pub rising_long : (from end : ℕ) (ns : List ℕ) → AreRising from ns end → from + length ns ≤ end
rising_long from end [] are = omega (arith, are)
rising_long from end (n ∷ ns) are =
    let rest = rising_long (suc n) end ns are.1 in
    let first = are.0 in
    omega (arith, rest, first)

chunk_end : (from len : ℕ) (cs : List Chunk) (p : ℕ) (c : Chunk) → AreChunks from cs len → slice_get cs p ≡ Some c
    → c.first + c.span ≤ len
chunk_end from len [] p c are there = absurd (none-some c there)
chunk_end from len (d ∷ cs) zero c are there =
    subst (λ (x : Chunk). x.first + x.span ≤ len) (some_same d c there) (ends_within (d.first + d.span) len cs are.2)
chunk_end from len (d ∷ cs) (suc p) c are there = chunk_end (d.first + d.span) len cs p c are.2 there

pub index_small : (len : ℕ) (cs : List Chunk) (n p i : ℕ) → AreChunks 0 cs len → LiesAt cs n p i → i < len
index_small len cs n p i are at =
    let c : Chunk = at.lies.chunk in
    let end = chunk_end 0 len cs p c are at.lies.there in
    let long = rising_long c.first (c.first + c.span) c.numbers at.lies.long.rise in
    let each = at.lies.long.each in
    let within = at.within in
    omega (arith, end, long, each, within)
