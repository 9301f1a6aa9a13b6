-- The truths of a filter on the rows of some columns.
use Rattle.std.specs.Prelude.{◌≡◌, ℕ, ◌<◌, ◌++◌, List, length, map, get_or}
use Rattle.std.specs.List.{range_with_len}
use Rattle.bitmaps.specs.Truths.{Truth}
use Rattle.values.specs.Datum.{Datum, null}
use Rattle.arrays.specs.Checked.{CheckedColumn}
use Rattle.view_lang.specs.Filter.{Filter, compare, null_in, negation, all_of, one_of, Filters, no_part, part}
use Rattle.view_lang.specs.Truth.{truth, truth_of_all, truth_of_any}
use Rattle.view_lang.specs.declared.filter.Operand.{Operand}
use Rattle.view_lang.specs.declared.filter.Operand.TheVariants as operand

-- The filter names the first n columns alone: where these are the main table's, no side table's.
abbrev pub OperandIsWithin : ℕ → Operand → Type 0
OperandIsWithin n (operand.Constant d) = Unit {0}
OperandIsWithin n (operand.Column k) = k < n

abbrev mutual
  pub IsWithin : ℕ → Filter → Type 0
  IsWithin n (compare c k o) = (k < n) × OperandIsWithin n o
  IsWithin n (null_in k) = k < n
  IsWithin n (negation f) = IsWithin n f
  IsWithin n (all_of fs) = AreWithin n fs
  IsWithin n (one_of fs) = AreWithin n fs

  pub AreWithin : ℕ → Filters → Type 0
  AreWithin n no_part = Unit {0}
  AreWithin n (part f fs) = IsWithin n f × AreWithin n fs

-- the cells of row i
abbrev pub row_at : List CheckedColumn → ℕ → List Datum
row_at columns i = map (λ c. get_or c.cells i null) columns

-- the truth of a filter on each of n rows
abbrev pub truths_in : ℕ → List CheckedColumn → Filter → List Truth
truths_in n columns f = map (λ i. truth (row_at columns i) f) (range_with_len 0 n)

abbrev pub truths_of_all : ℕ → List CheckedColumn → Filters → List Truth
truths_of_all n columns fs = map (λ i. truth_of_all (row_at columns i) fs) (range_with_len 0 n)

abbrev pub truths_of_any : ℕ → List CheckedColumn → Filters → List Truth
truths_of_any n columns fs = map (λ i. truth_of_any (row_at columns i) fs) (range_with_len 0 n)

-- A filter that names the columns of a row alone has the same truth on that row with more cells after it.
abbrev pub TruthIsOfFirstCells : Type 0
TruthIsOfFirstCells =
    (row more : List Datum) (f : Filter) → IsWithin (length row) f → truth (row ++ more) f ≡ truth row f
