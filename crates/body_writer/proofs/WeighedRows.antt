-- A row's weight, cell by cell.
use Rattle.std.proofs.Common.{
  ◌≡◌,
  inl,
  inr,
  ℕ,
  List,
  [],
  ◌∷◌,
  ◌+◌,
  ◌<◌,
  ◌≤◌,
  length,
  drop,
  get_or,
  IfSome,
  slice_get,
  All,
  sym,
  subst,
  arith,
}
use Rattle.std.proofs.lemmas.List.{drop_more, drop_all}
use Rattle.std.proofs.lemmas.Option.{slice_get-get_or}
use Rattle.std.proofs.lemmas.List.Elements.{All-get_or}
use Rattle.values.specs.Limits.{max_cell_weight, max_row_weight}
use Rattle.values.specs.Datum.{null}
use Rattle.values.specs.Layouts.{weight}
use Rattle.arrays.specs.Checked.{CheckedColumn}
use Rattle.arrays.specs.Weights.{Says}
use Rattle.schema_meta.specs.Rows.{row_at}
use Rattle.body_writer.specs.RowRanges.{cells_in}
use Rattle.body_writer.specs.Batch.{row_weight}
use Rattle.body_writer.specs.Heavy.{AreLightCells, HasHeavyCell, IsHeavy, IsLight, IsLightAs, layouts_in}

abbrev pub weight_left : List CheckedColumn → ℕ → ℕ
weight_left cs k = row_weight (layouts_in cs) (row_at (cells_in cs) k)

abbrev heavy_left : List CheckedColumn → ℕ → Type 0
heavy_left cs k = HasHeavyCell (layouts_in cs) (row_at (cells_in cs) k)

abbrev pub light_left : List CheckedColumn → ℕ → Type 0
light_left cs k = AreLightCells (layouts_in cs) (row_at (cells_in cs) k)

-- What remains of a row, after cells of this sum, decides whether the whole row is heavy.
pub record Weighs (sum : ℕ) (rest columns : List CheckedColumn) (k : ℕ) : Type 0 where
  pub cell : heavy_left rest k → IsHeavy (layouts_in columns) (row_at (cells_in columns) k)
  pub row : max_row_weight < sum + weight_left rest k → IsHeavy (layouts_in columns) (row_at (cells_in columns) k)
  pub light : light_left rest k → sum + weight_left rest k ≤ max_row_weight
      → IsLight (layouts_in columns) (row_at (cells_in columns) k)
  pub below : sum ≤ max_row_weight
  pub exact : sum + weight_left rest k ≡ weight_left columns k

pub weighs-all : (columns : List CheckedColumn) (k : ℕ) → Weighs 0 columns columns k
weighs-all columns k = record {
  cell = λ h. inl h;
  row = λ h. inr (omega (arith, h));
  light = λ cells whole. record { cells = cells; whole = omega (arith, whole) };
  below = omega arith;
  exact = omega arith;
}

pub split_at :
    (columns : List CheckedColumn) (i : ℕ) (c : CheckedColumn) → c ≡ get_or columns i c → i < length columns
    → drop i columns ≡ c ∷ drop (i + 1) columns
split_at columns i c is below = let P : CheckedColumn → Type 0 = λ x. drop i columns ≡ x ∷ drop (i + 1) columns in
    subst P (sym is) (drop_more columns i c below)

-- each column has a cell in row k
pub cell_there :
    (columns : List CheckedColumn) (i k : ℕ) (c : CheckedColumn) → c ≡ get_or columns i c → i < length columns
    → All (λ x. k < length x.cells) columns → k < length c.cells
cell_there columns i k c is below all =
    let P : CheckedColumn → Type 0 = λ x. k < length x.cells in
    subst P (sym is) (All-get_or P columns i c below all)

-- what a column says of the cell's weight
pub weight_said :
    (c : CheckedColumn) (k w : ℕ) → k < length c.cells → IfSome (slice_get c.cells k) (λ d. Says w (weight c.layouts d))
    → Says w (weight c.layouts (get_or c.cells k null))
weight_said c k w below says =
    let P = λ (o : _). IfSome o (λ d. Says w (weight c.layouts d)) in
    subst P (slice_get-get_or c.cells k null below) says

pub weighs-heavy :
    (sum i k w : ℕ) (columns whole : List CheckedColumn) (c : CheckedColumn) → c ≡ get_or columns i c
    → i < length columns → k < length c.cells
    → IfSome (slice_get c.cells k) (λ d. Says w (weight c.layouts d)) → max_cell_weight < w
    → Weighs sum (drop i columns) whole k
    → IsHeavy (layouts_in whole) (row_at (cells_in whole) k)
weighs-heavy sum i k w columns whole c is below inside says heavy left =
    let P : List CheckedColumn → Type 0 = λ cs. Weighs sum cs whole k in
    let here : Weighs sum (c ∷ drop (i + 1) columns) whole k = subst P (split_at columns i c is below) left in
    here.cell (inl ((weight_said c k w inside says).heavy heavy))

pub weighs-over :
    (sum i k w : ℕ) (columns whole : List CheckedColumn) (c : CheckedColumn) → c ≡ get_or columns i c
    → i < length columns → k < length c.cells
    → IfSome (slice_get c.cells k) (λ d. Says w (weight c.layouts d)) → w ≤ max_cell_weight → max_row_weight < sum + w
    → Weighs sum (drop i columns) whole k
    → IsHeavy (layouts_in whole) (row_at (cells_in whole) k)
weighs-over sum i k w columns whole c is below inside says light heavy left =
    let P : List CheckedColumn → Type 0 = λ cs. Weighs sum cs whole k in
    let here : Weighs sum (c ∷ drop (i + 1) columns) whole k = subst P (split_at columns i c is below) left in
    let same : w ≡ weight c.layouts (get_or c.cells k null) = (weight_said c k w inside says).exact light in
    here.row (omega (arith, heavy, same))

pub weighs-more :
    (sum i k w : ℕ) (columns whole : List CheckedColumn) (c : CheckedColumn) → c ≡ get_or columns i c
    → i < length columns → k < length c.cells
    → IfSome (slice_get c.cells k) (λ d. Says w (weight c.layouts d)) → w ≤ max_cell_weight → sum + w ≤ max_row_weight
    → Weighs sum (drop i columns) whole k
    → Weighs (sum + w) (drop (i + 1) columns) whole k
weighs-more sum i k w columns whole c is below inside says light within left =
    let P : List CheckedColumn → Type 0 = λ cs. Weighs sum cs whole k in
    let here : Weighs sum (c ∷ drop (i + 1) columns) whole k = subst P (split_at columns i c is below) left in
    let same : w ≡ weight c.layouts (get_or c.cells k null) = (weight_said c k w inside says).exact light in
    record {
      cell = λ h. here.cell (inr h);
      row = λ h. here.row (omega (arith, h, same));
      light = λ cells whole. here.light (omega (arith, light, same), cells) (omega (arith, whole, same));
      below = within;
      exact = omega (arith, here.exact, same);
    }

pub weighs-end :
    (sum i k : ℕ) (columns whole : List CheckedColumn) → length columns ≤ i → Weighs sum (drop i columns) whole k
    → IsLightAs (layouts_in whole) (row_at (cells_in whole) k) sum
weighs-end sum i k columns whole all left =
    let P : List CheckedColumn → Type 0 = λ cs. Weighs sum cs whole k in
    let here : Weighs sum [] whole k = subst P (drop_all i columns all) left in
    record { light = here.light tt (omega (arith, here.below)); exact = omega (arith, here.exact) }

pub ruleset weighing = (weighs-all, weighs-heavy, weighs-over, weighs-more, weighs-end)
