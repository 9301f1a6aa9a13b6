-- The columns of rows that are read where they lie are those of the rows, where no column is of lists or of structs
-- with fields.
use Rattle.std.proofs.Common.{
  ◌≡◌,
  ℕ,
  zero,
  suc,
  ◌+◌,
  ◌<◌,
  List,
  [],
  ◌∷◌,
  ◌++◌,
  All,
  length,
  take,
  get_or,
  refl,
  ap,
  ap₂,
  subst,
  sym,
  ◌∙◌,
  arith,
}
use Rattle.std.specs.Prelude.{Vec, map}
use Rattle.std.specs.declared.alloc.Global.{Global}
use Rattle.std.proofs.lemmas.List.{length-append, length-map, get_or-map, map-append}
use Rattle.std.proofs.lemmas.List.Elements.{All-append}
use Rattle.std.proofs.Math.Seq.{take-suc}
use Rattle.values.specs.CellViews.{shallow, viewed}
use Rattle.values.specs.Datum.{Datum, null, truth, whole, text, bytes, list, structure, Items, no_items, item, items_of}
use Rattle.values.specs.Layouts.{Holds, HoldsEach}
use Rattle.values.specs.Logical.{NamedType, tree_of}
use Rattle.values.specs.Rose.{Rose, node, none, more}
use Rattle.values.specs.declared.cell_view.CellView.{CellView}
use Rattle.values.specs.declared.layout.Layout.{Layout}
use Rattle.values.specs.declared.layout.Layout.TheVariants.{
  Bool as Booleans,
  Int,
  Decimal,
  FixedSizeBinary,
  Utf8,
  Binary,
  List as Listed,
  Struct,
}
use Rattle.schema_meta.specs.Rows.{row_at, rows_from, rows_in}
use Rattle.stream_writer.specs.Stream.{trees}
use Rattle.stream_writer.specs.Table as writer
use Rattle.stream_writer.specs.ViewedRows.{AreFlat, IsFlat, viewed_columns, viewed_rows}
use Rattle.view_lang.specs.Cells.{cell_at}
use Rattle.session.specs.LentRows.{lent_column, lent_columns}

-- a view gives all of a value of a layout without children
list_flat : (t : Rose Layout) (es : Items) → IsFlat t → Holds t (list es) → shallow (list es) ≡ list es
list_flat (node Booleans kids) es flat held = absurd held
list_flat (node (Int w s) kids) es flat held = absurd held
list_flat (node (Decimal p) kids) es flat held = absurd held
list_flat (node (FixedSizeBinary w) kids) es flat held = absurd held
list_flat (node (Utf8 o) kids) es flat held = absurd held
list_flat (node (Binary o) kids) es flat held = absurd held
list_flat (node (Listed o) none) es flat held = absurd held
list_flat (node (Listed o) (more t ts)) es flat held = absurd flat
list_flat (node Struct kids) es flat held = absurd held

structure_flat :
    (t : Rose Layout) (es : Items) → IsFlat t → Holds t (structure es) → shallow (structure es) ≡ structure es
structure_flat (node Booleans kids) es flat held = absurd held
structure_flat (node (Int w s) kids) es flat held = absurd held
structure_flat (node (Decimal p) kids) es flat held = absurd held
structure_flat (node (FixedSizeBinary w) kids) es flat held = absurd held
structure_flat (node (Utf8 o) kids) es flat held = absurd held
structure_flat (node (Binary o) kids) es flat held = absurd held
structure_flat (node (Listed o) kids) es flat held = absurd held
structure_flat (node Struct none) no_items flat held = refl
structure_flat (node Struct none) (item e es) flat held = absurd held
structure_flat (node Struct (more t ts)) es flat held = absurd flat

whole_shallow : (t : Rose Layout) (d : Datum) → IsFlat t → Holds t d → shallow d ≡ d
whole_shallow t null flat held = refl
whole_shallow t (truth b) flat held = refl
whole_shallow t (whole n) flat held = refl
whole_shallow t (text b) flat held = refl
whole_shallow t (bytes b) flat held = refl
whole_shallow t (list es) flat held = list_flat t es flat held
whole_shallow t (structure es) flat held = structure_flat t es flat held

-- what views of the first n cells of a row give
abbrev firsts : ℕ → List Datum → List Datum
firsts zero row = []
firsts (suc n) row = firsts n row ++ (shallow (cell_at row n) ∷ [])

firsts_next : (n : ℕ) (c : Datum) (cs : List Datum) → firsts (suc n) (c ∷ cs) ≡ shallow c ∷ firsts n cs
firsts_next zero c cs = refl
firsts_next (suc n) c cs =
    ap (λ (l : List Datum). l ++ (shallow (cell_at cs n) ∷ [])) (firsts_next n c cs)

firsts_whole :
    (fs : List (Rose NamedType)) (row : List Datum) → AreFlat (trees fs) → HoldsEach (trees fs) (items_of row)
    → firsts (length fs) row ≡ row
firsts_whole [] [] flat held = refl
firsts_whole [] (c ∷ cs) flat held = absurd held
firsts_whole (f ∷ fs) [] flat held = absurd held
firsts_whole (f ∷ fs) (c ∷ cs) flat held =
    firsts_next (length fs) c cs
    ∙ ap₂ (λ (a : Datum) (l : List Datum). a ∷ l) (whole_shallow (tree_of f) c flat.0 held.0)
    (firsts_whole fs cs flat.1 held.1)

-- one row of the columns
row_lent : (n : ℕ) (rows : List (List Datum)) (i : ℕ) → i < length rows
    → row_at (lent_columns n rows) i ≡ firsts n (get_or rows i [])
row_lent zero rows i below = refl
row_lent (suc n) rows i below =
    map-append (λ (c : List Datum). get_or c i null) (lent_columns n rows) (lent_column n rows ∷ [])
    ∙ ap₂ (λ (a b : List Datum). a ++ b) (row_lent n rows i below)
    (ap (λ (d : Datum). d ∷ [])
    (get_or-map (λ (row : List Datum). shallow (cell_at row n)) rows i [] null below))

each_row : (cols : List (List Datum)) (i : ℕ) (rows : List (List Datum))
    → ((j m : ℕ) → i + j ≡ m → j < length rows → row_at cols m ≡ get_or rows j [])
    → rows_from cols i (length rows) ≡ rows
unfolding rows_from
each_row cols i [] h = refl
each_row cols i (row ∷ rows) h =
    let mine = h 0 i (omega arith) (omega arith) in
    let others = each_row cols (i + 1) rows (λ j m e l. h (suc j) m (omega (arith, e)) (omega (arith, l))) in
    rw (mine, others) refl

rows_lent :
    (fs : List (Rose NamedType)) (rows : List (List Datum)) → AreFlat (trees fs) → All (writer.IsRow fs) rows
    → rows_in (length rows) (lent_columns (length fs) rows) ≡ rows
rows_lent fs rows flat sound =
    each_row (lent_columns (length fs) rows) 0 rows (λ j m e l.
    let P : ℕ → Type 0 = λ n. row_at (lent_columns (length fs) rows) n ≡ get_or rows j [] in
    let same : j ≡ m = omega (arith, e) in
    subst P same
    (row_lent (length fs) rows j l ∙ firsts_whole fs (get_or rows j []) flat (sound j [] l).held))

-- the rows of these columns are the rows
pub lent_are :
    (fs : List (Rose NamedType)) (rows : List (List Datum)) (columns : List (Vec CellView Global))
    → AreFlat (trees fs) → writer.IsTable fs rows
    → viewed_columns columns ≡ lent_columns (length fs) rows → viewed_rows (length rows) columns ≡ rows
lent_are fs rows columns flat table same = ap (rows_in (length rows)) same ∙ rows_lent fs rows flat table.sound

-- there are as many columns
columns_many : (n : ℕ) (rows : List (List Datum)) → length (lent_columns n rows) ≡ n
columns_many zero rows = refl
columns_many (suc n) rows =
    let parts = length-append (lent_columns n rows) (lent_column n rows ∷ []) in
    let here = columns_many n rows in omega (arith, parts, here)

pub lent_many : (n : ℕ) (rows : List (List Datum)) (columns : List (Vec CellView Global))
    → viewed_columns columns ≡ lent_columns n rows → length columns ≡ n
lent_many n rows columns same =
    sym (length-map columns (λ (c : Vec CellView Global). map viewed c.items)) ∙ ap length same ∙ columns_many n rows

-- each has a cell for each row
columns_sized : (n : ℕ) (rows : List (List Datum))
    → All (λ (c : List Datum). length c ≡ length rows) (lent_columns n rows)
columns_sized zero rows = λ i d below. absurd (omega (arith, below))
columns_sized (suc n) rows =
    let P : List Datum → Type 0 = λ c. length c ≡ length rows in
    All-append P (lent_columns n rows) (lent_column n rows ∷ []) (columns_sized n rows) (last P
    (lent_column n rows) (length-map rows (λ (row : List Datum). shallow (cell_at row n))))
  where
    last : (P : List Datum → Type 0) (c : List Datum) → P c → All P (c ∷ [])
    last P c p zero d below = p
    last P c p (suc i) d below = absurd (omega (arith, below))

pub lent_sized :
    (n : ℕ) (rows : List (List Datum)) (columns : List (Vec CellView Global))
    → viewed_columns columns ≡ lent_columns n rows
    → All (λ (c : Vec CellView Global). length c.items ≡ length rows) columns
lent_sized n rows columns same i d below =
    let cells : Vec CellView Global → List Datum = λ c. map viewed c.items in
    let each : All (λ (c : List Datum). length c ≡ length rows) (viewed_columns columns) =
    subst (All (λ (c : List Datum). length c ≡ length rows)) (sym same) (columns_sized n rows) in
    let many = length-map columns cells in
    sym (length-map (get_or columns i d).items viewed) ∙ ap length (sym (get_or-map cells columns i d (cells d) below))
    ∙ each i (cells d) (omega (arith, below, many))

-- a column with one more cell
pub one_more : (f : List Datum → Datum) (cells : List CellView) (cell : CellView) (rows : List (List Datum)) (i : ℕ)
    → i < length rows → map viewed cells ≡ map f (take i rows) → viewed cell ≡ f (get_or rows i [])
    → map viewed (cells ++ (cell ∷ [])) ≡ map f (take (i + 1) rows)
one_more f cells cell rows i below made here =
    let one : i + 1 ≡ suc i = omega arith in
    map-append viewed cells (cell ∷ [])
    ∙ ap₂ (λ (a b : List Datum). a ++ b) made (ap (λ (d : Datum). d ∷ []) here)
    ∙ sym (map-append f (take i rows) (get_or rows i [] ∷ [])) ∙ ap (map f) (sym (take-suc rows i [] below))
    ∙ ap (λ n. map f (take n rows)) (sym one)
