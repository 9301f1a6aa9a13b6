-- The rows of batches of one column of bytes.
use Rattle.std.proofs.Common.{◌≡◌, ℕ, zero, suc, ◌+◌, ◌-◌, ◌*◌, ◌≤◌, List, [], ◌∷◌, length, drop, refl, subst, sym, arith, length-append}
use Rattle.std.specs.Prelude.{All}
use Rattle.std.proofs.lemmas.List.{length-take}
use Rattle.std.proofs.lemmas.List.Elements.{All-append, All-cons, All-drop, All-get_or, All-head, All-nil, All-tail, All-take}
use Rattle.values.specs.Datum.{Datum, items_of, null}
use Rattle.values.specs.Layouts.{Holds, HoldsEach}
use Rattle.values.specs.Rose.{Rose}
use Rattle.values.specs.declared.layout.Layout.{Layout}
use Rattle.arrays.specs.Checked.{CheckedColumn}
use Rattle.schema_meta.specs.Rows.{row_at, rows_from, rows_in}
use Rattle.body_writer.specs.Batch.{IsBatch, rows_weight}
use Rattle.body_writer.specs.RowRanges.{batch_rows, cells_in, range_rows, ranges_rows}
use Rattle.body_writer.specs.declared.from_columns.batch.RowRange.{RowRange}
use Rattle.column_merge.specs.Sample.{AreBytes, IsByteRow, byte_layout, byte_layouts}

byte-rows : (cells : List Datum) (i n : ℕ) → All (Holds byte_layout) cells → i + n ≤ length cells
    → All IsByteRow (rows_from (cells ∷ []) i n)
unfolding rows_from
byte-rows cells i zero held room = All-nil IsByteRow
byte-rows cells i (suc n) held room =
    All-cons IsByteRow (row_at (cells ∷ []) i) (rows_from (cells ∷ []) (i + 1) n)
    ((All-get_or (Holds byte_layout) cells i null (omega (arith, room)) held, tt), omega arith)
    (byte-rows cells (i + 1) n held (omega (arith, room)))

pub column_rows : (cells : List Datum) (n : ℕ) → All (Holds byte_layout) cells → length cells ≡ n
    → All IsByteRow (rows_in n (cells ∷ []))
column_rows cells n held same = byte-rows cells 0 n held (omega (arith, same))

range-bytes : (r : RowRange) → AreBytes 3 r.batch.now → All IsByteRow (range_rows r)
range-bytes r are =
    All-take IsByteRow (r.to - r.from) (drop r.from (batch_rows r.batch.now))
    (All-drop IsByteRow r.from (batch_rows r.batch.now) are.bytes)

rows-light : (rows : List (List Datum)) → All IsByteRow rows → rows_weight byte_layouts rows ≤ 2 * length rows
rows-light [] h = omega arith
rows-light (r ∷ rs) h =
    let here = (All-head IsByteRow r rs h).1 in
    let rest = rows-light rs (All-tail IsByteRow r rs h) in
    omega (arith, here, rest)

rows-held : (rows : List (List Datum)) → All IsByteRow rows → All (λ row. HoldsEach byte_layouts (items_of row)) rows
rows-held rows h k row is = (h k row is).0

pub few_bytes : (rows : List (List Datum)) → All IsByteRow rows → length rows ≤ 1024 → IsBatch byte_layouts rows
few_bytes rows h few =
    let light = rows-light rows h in
    record { few = few; held = rows-held rows h; narrow = omega arith; layouts = ((tt, tt), tt); light = omega (arith, light, few) }

-- three ranges of at most three rows each

pub range_bytes : (rs : List RowRange) → All (λ r. AreBytes 3 r.batch.now) rs → All IsByteRow (ranges_rows rs)
range_bytes [] h = All-nil IsByteRow
range_bytes (r ∷ rs) h =
    All-append IsByteRow (range_rows r) (ranges_rows rs)
    (range-bytes r (All-head (λ (x : RowRange). AreBytes 3 x.batch.now) r rs h))
    (range_bytes rs (All-tail (λ (x : RowRange). AreBytes 3 x.batch.now) r rs h))

range-few : (r : RowRange) → r.to ≤ 3 → length (range_rows r) ≤ 3
range-few r most =
    let short = length-take (r.to - r.from) (drop r.from (batch_rows r.batch.now)) in omega (arith, short, most)

pub ranges_few : (rs : List RowRange) → All (λ (r : RowRange). r.to ≤ 3) rs → length (ranges_rows rs) ≤ 3 * length rs
ranges_few [] h = omega arith
ranges_few (r ∷ rs) h =
    let here = range-few r (All-head (λ (x : RowRange). x.to ≤ 3) r rs h) in
    let rest = ranges_few rs (All-tail (λ (x : RowRange). x.to ≤ 3) r rs h) in
    omega (arith, here, rest, length-append (range_rows r) (ranges_rows rs))

pub three_ranges :
    (r s t : RowRange) → AreBytes 3 r.batch.now → AreBytes 3 s.batch.now → AreBytes 3 t.batch.now → r.to ≤ 3 → s.to ≤ 3
    → t.to ≤ 3 → IsBatch byte_layouts (ranges_rows (r ∷ s ∷ t ∷ []))
three_ranges r s t a b c x y z =
    let P : RowRange → Type 0 = λ q. AreBytes 3 q.batch.now in
    let Q : RowRange → Type 0 = λ q. q.to ≤ 3 in
    let rs = r ∷ s ∷ t ∷ [] in
    let few = ranges_few rs (All-cons Q r (s ∷ t ∷ []) x (All-cons Q s (t ∷ []) y (All-cons Q t [] z (All-nil Q)))) in
    few_bytes (ranges_rows rs)
    (range_bytes rs (All-cons P r (s ∷ t ∷ []) a (All-cons P s (t ∷ []) b (All-cons P t [] c (All-nil P)))))
    (omega (arith, few))

-- a batch of one column

abbrev pub OneColumn : List CheckedColumn → Type 0
OneColumn items =
    (length items ≡ 1) × All (λ (c : CheckedColumn). length c.cells ≡ 3) items
    × All IsByteRow (rows_in 3 (cells_in items))

pub one_column :
    (c : CheckedColumn) (items : List CheckedColumn) → items ≡ c ∷ [] → c.layouts ≡ byte_layout
    → All (λ d. Holds c.layouts d) c.cells → length c.cells ≡ 3 → OneColumn items
one_column c items one typed held long =
    subst OneColumn (sym one) (
      refl,
      All-cons (λ (x : CheckedColumn). length x.cells ≡ 3) c [] long (All-nil (λ (x : CheckedColumn). length x.cells ≡ 3)),
      column_rows c.cells 3 (subst (λ (t : Rose Layout). All (Holds t) c.cells) typed held) long,
    )
