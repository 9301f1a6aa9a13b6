-- Bounds on the weights of rows, column by column.
use Rattle.std.proofs.Common.{◌≡◌, ℕ, List, [], ◌∷◌, ◌+◌, ◌<◌, ◌≤◌, length, drop, get_or, IfSome, All, subst, arith}
use Rattle.std.specs.Prelude.{Option, Some}
use Rattle.std.proofs.lemmas.List.{drop_all}
use Rattle.std.proofs.lemmas.List.Elements.{All-weaker}
use Rattle.values.specs.Limits.{max_cell_weight, max_row_weight}
use Rattle.values.specs.Datum.{null}
use Rattle.values.specs.Layouts.{weight}
use Rattle.arrays.specs.Checked.{CheckedColumn}
use Rattle.body_writer.specs.RowRanges.{cells_in}
use Rattle.body_writer.specs.Heavy.{AreLightUpTo, IsRowBound, layouts_in}
use Rattle.body_writer.proofs.WeighedRows.{cell_there, light_left, split_at, weight_left}

-- Rows by bounds on the cells of their columns: what the sum of the bounds so far and the remaining columns weigh.
pub record Covers (sum : ℕ) (rest columns : List CheckedColumn) : Type 0 where
  pub cells : (k : ℕ) → All (λ (c : CheckedColumn). k < length c.cells) columns → light_left rest k
      → light_left columns k
  pub whole : (k : ℕ) → All (λ (c : CheckedColumn). k < length c.cells) columns
      → weight_left columns k ≤ sum + weight_left rest k

pub covers_all : (columns : List CheckedColumn) → Covers 0 columns columns
covers_all columns = record { cells = λ k there h. h; whole = λ k there. omega arith }

-- the cell of a column whose cells are within a bound
cell_within : (c : CheckedColumn) (k w : ℕ) → k < length c.cells → All (λ d. weight c.layouts d ≤ w) c.cells
    → weight c.layouts (get_or c.cells k null) ≤ w
cell_within c k w inside within = within k null inside

covers_next :
    (sum w : ℕ) (c : CheckedColumn) (rest columns : List CheckedColumn)
    → ((k : ℕ) → All (λ (x : CheckedColumn). k < length x.cells) columns → k < length c.cells) → w ≤ max_cell_weight
    → All (λ d. weight c.layouts d ≤ w) c.cells → Covers sum (c ∷ rest) columns → Covers (sum + w) rest columns
covers_next sum w c rest columns inside light within left = record {
  cells = λ k there h.
      let here = cell_within c k w (inside k there) within in left.cells k there (omega (arith, here, light), h);
  whole = λ k there.
      let here = cell_within c k w (inside k there) within in
      let all = left.whole k there in
      omega (arith, here, all);
}

pub covers_more :
    (sum i w : ℕ) (columns : List CheckedColumn) (c : CheckedColumn) → c ≡ get_or columns i c → i < length columns
    → (w ≤ max_cell_weight → All (λ d. weight c.layouts d ≤ w) c.cells) → w ≤ max_cell_weight
    → Covers sum (drop i columns) columns → Covers (sum + w) (drop (i + 1) columns) columns
covers_more sum i w columns c is below within light left =
    let P : List CheckedColumn → Type 0 = λ cs. Covers sum cs columns in
    covers_next sum w c (drop (i + 1) columns) columns (λ k there. cell_there columns i k c is below there) light
    (within light) (subst P (split_at columns i c is below) left)

pub covers_end :
    (sum i : ℕ) (columns : List CheckedColumn) → length columns ≤ i → sum ≤ max_row_weight
    → Covers sum (drop i columns) columns → IsRowBound columns sum
covers_end sum i columns all light left = λ k there.
    let P : List CheckedColumn → Type 0 = λ cs. Covers sum cs columns in
    let here : Covers sum [] columns = subst P (drop_all i columns all) left in
    let whole = here.whole k there in
    (record { cells = here.cells k there tt; whole = omega (arith, whole, light) }, omega (arith, whole))

pub rows_there : (cs : List CheckedColumn) (n k : ℕ) → k < n → All (λ (c : CheckedColumn). length c.cells ≡ n) cs
    → All (λ (c : CheckedColumn). k < length c.cells) cs
rows_there cs n k below all =
    let N : CheckedColumn → Type 0 = λ x. length x.cells ≡ n in
    let K : CheckedColumn → Type 0 = λ x. k < length x.cells in
    All-weaker N K (λ c h. omega (arith, h, below)) cs all

pub rows_bounded :
    (o : Option ℕ) (cs : List CheckedColumn) (n most : ℕ) → o ≡ Some most → IfSome o (IsRowBound cs)
    → All (λ (c : CheckedColumn). length c.cells ≡ n) cs → AreLightUpTo (layouts_in cs) (cells_in cs) n most
rows_bounded o cs n most is bound sized = λ k below.
    let P : Option ℕ → Type 0 = λ x. IfSome x (IsRowBound cs) in
    let here : IsRowBound cs most = subst P is bound in
    here k (rows_there cs n k below sized)

pub ruleset bounding = (covers_all, covers_end)
