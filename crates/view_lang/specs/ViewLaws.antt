-- Laws of filters, of the order of rows, of groups, and of what can be accumulated of them.
use Rattle.std.specs.Prelude.{◌≡◌, ◌↔◌, ◌<◌, ℕ, Bool, true, false, not, ◌&&◌, ◌||◌, if◌then◌else◌, All, List, [], ◌∷◌, length, map, None, Some}
use Rattle.std.specs.List.{AllByRecursion, Contains, filter_map, list_any}
use Rattle.std.specs.Option.{option_map}
use Rattle.std.specs.List.Sorted.{IsPermutation, IsStrictlySortedBy}
use Rattle.std.specs.Cmp.{IsTotalOrder}
use Rattle.values.specs.Datum.{Datum, null, is_null}
use Rattle.values.specs.Order.{datum_cmp}
use Rattle.view_lang.specs.Aggregates.{ComparesKeys, IsKeyCell}
use Rattle.view_lang.specs.Cells.{cell_at, cells_at}
use Rattle.view_lang.specs.Filter.{Filter, Filters, all_of, compare, negation, no_part, null_in, one_of, part, parts_of}
use Rattle.view_lang.specs.Groups.{group_rows, same_tuple, tuples_of}
use Rattle.view_lang.specs.Folds.{first_in}
use Rattle.view_lang.specs.Config.{View}
use Rattle.view_lang.specs.Joined.{Side}
use Rattle.view_lang.specs.Outputs.{GroupOutput, Output}
use Rattle.view_lang.specs.RowOrder.{cell_cmp, row_cmp, tuple_cmp}
use Rattle.view_lang.specs.Sorted.{IsArranged, sorted}
use Rattle.view_lang.specs.Truth.{Truth, holds, is_true, operand_of, truth}
use Rattle.view_lang.specs.Views.{passing_row, shown_row, view_input}
use Rattle.view_lang.specs.declared.filter.Comparison.{Comparison}
use Rattle.view_lang.specs.declared.filter.Comparison.TheVariants as than
use Rattle.view_lang.specs.declared.filter.Operand.{Operand}
use Rattle.view_lang.specs.declared.filter.Operand.TheVariants as operand
use Rattle.view_lang.specs.declared.view.Direction.{Direction}
use Rattle.view_lang.specs.declared.view.OrderBy.{OrderBy}

-- Filters.

-- `not` of unknown is unknown.
abbrev pub UnknownStays : Type 0
UnknownStays = (row : List Datum) (f : Filter) → truth row f ≡ None → truth row (negation f) ≡ None

-- `not` of `and` is `or` of each `not`, and `not` of `or` is `and` of each `not`.
abbrev pub NotOfAll : Type 0
NotOfAll =
    (row : List Datum) (fs : List Filter)
    → truth row (negation (all_of (parts_of fs))) ≡ truth row (one_of (parts_of (map negation fs)))

abbrev pub NotOfOne : Type 0
NotOfOne =
    (row : List Datum) (fs : List Filter)
    → truth row (negation (one_of (parts_of fs))) ≡ truth row (all_of (parts_of (map negation fs)))

abbrev pub is_false : Truth → Bool
is_false (Some b) = not b
is_false None = false

abbrev pub is_unknown : Truth → Bool
is_unknown (Some b) = false
is_unknown None = true

-- False where one part is false, else unknown where one is unknown, else true.
abbrev pub AllOfMeans : Type 0
AllOfMeans =
    (row : List Datum) (fs : List Filter)
    → truth row (all_of (parts_of fs))
    ≡ (if list_any is_false (map (truth row) fs) then Some false
    else if list_any is_unknown (map (truth row) fs) then None else Some true)

-- True where one part is true, else unknown where one is unknown, else false.
abbrev pub OneOfMeans : Type 0
OneOfMeans =
    (row : List Datum) (fs : List Filter)
    → truth row (one_of (parts_of fs))
    ≡ (if list_any is_true (map (truth row) fs) then Some true
    else if list_any is_unknown (map (truth row) fs) then None else Some false)

abbrev pub opposite : Comparison → Comparison
opposite than.Equal = than.Different
opposite than.Different = than.Equal
opposite than.Below = than.AtLeast
opposite than.AtMost = than.Above
opposite than.Above = than.AtMost
opposite than.AtLeast = than.Below

-- `not` of a comparison is the opposite one.
abbrev pub NotOfComparison : Type 0
NotOfComparison =
    (row : List Datum) (c : Comparison) (k : ℕ) (o : Operand)
    → truth row (negation (compare c k o)) ≡ truth row (compare (opposite c) k o)

-- A filter and its negation are never both true; nor are a comparison and the opposite one.
abbrev pub NeverBoth : Type 0
NeverBoth = (row : List Datum) (f : Filter) → (is_true (truth row f) && is_true (truth row (negation f))) ≡ false

abbrev pub HasNoNulls : List Datum → Type 0
HasNoNulls row = All (λ d. is_null d ≡ false) row

abbrev pub IsValueIn : ℕ → Operand → Type 0
IsValueIn n (operand.Constant d) = is_null d ≡ false
IsValueIn n (operand.Column k) = k < n

-- A filter names columns of rows of this length, and its constants aren't null.
abbrev mutual
  pub IsOver : ℕ → Filter → Type 0
  IsOver n (compare c k o) = (k < n) × IsValueIn n o
  IsOver n (null_in k) = k < n
  IsOver n (negation f) = IsOver n f
  IsOver n (all_of fs) = AreOver n fs
  IsOver n (one_of fs) = AreOver n fs

  pub AreOver : ℕ → Filters → Type 0
  AreOver n no_part = Unit {0}
  AreOver n (part f fs) = IsOver n f × AreOver n fs

-- the meaning of a filter with two truth values
abbrev mutual
  pub reading : List Datum → Filter → Bool
  reading row (compare c k o) = holds c (datum_cmp (cell_at row k) (operand_of row o))
  reading row (null_in k) = is_null (cell_at row k)
  reading row (negation f) = not (reading row f)
  reading row (all_of fs) = reading_of_all row fs
  reading row (one_of fs) = reading_of_any row fs

  pub reading_of_all : List Datum → Filters → Bool
  reading_of_all row no_part = true
  reading_of_all row (part f fs) = reading row f && reading_of_all row fs

  pub reading_of_any : List Datum → Filters → Bool
  reading_of_any row no_part = false
  reading_of_any row (part f fs) = reading row f || reading_of_any row fs

-- On a row without nulls a filter is true or false, by this meaning.
abbrev pub TwoValuedWithoutNulls : Type 0
TwoValuedWithoutNulls =
    (row : List Datum) (f : Filter) → HasNoNulls row → IsOver (length row) f → truth row f ≡ Some (reading row f)

-- Order.

-- Any two rows are comparable, and rows that tie compare alike with others.
abbrev pub RowsAreRanked : Type 0
RowsAreRanked = (os : List OrderBy) → IsTotalOrder (row_cmp os)

-- The sorted rows are the only rearrangement that is sorted and stable.
abbrev pub SortedIsTheArrangement : Type 0
SortedIsTheArrangement =
    (os : List OrderBy) (rows others : List (List Datum))
    → IsArranged (row_cmp os) rows others ↔ (others ≡ sorted (row_cmp os) rows)

-- Groups.

-- Each grouping tuple is below the next, so none is there twice.
abbrev pub TuplesAscend : Type 0
TuplesAscend = (by : List ℕ) (rows : List (List Datum)) → IsStrictlySortedBy tuple_cmp (tuples_of by rows)

-- Each grouping tuple is a row's, and each row's is among them.
abbrev pub TuplesAreOfRows : Type 0
TuplesAreOfRows =
    (k : ℕ) (ks : List ℕ) (rows : List (List Datum)) (t : List Datum)
    → Contains (tuples_of (k ∷ ks) rows) t → Contains (map (cells_at (k ∷ ks)) rows) t

abbrev pub TuplesCover : Type 0
TuplesCover =
    (k : ℕ) (ks : List ℕ) (rows : List (List Datum)) (row : List Datum)
    → Contains rows row → list_any (same_tuple (cells_at (k ∷ ks) row)) (tuples_of (k ∷ ks) rows) ≡ true

-- A tuple is among the grouping tuples exactly where a row has it.
abbrev pub TuplesAsk : Type 0
TuplesAsk =
    (k : ℕ) (ks : List ℕ) (rows : List (List Datum)) (t : List Datum)
    → list_any (same_tuple t) (tuples_of (k ∷ ks) rows)
    ≡ list_any (same_tuple t) (map (cells_at (k ∷ ks)) rows)

-- What is compared of a row is neither a list nor a struct.
abbrev pub UsesKeys : List ℕ → List GroupOutput → List Datum → Type 0
UsesKeys by outs row =
    AllByRecursion (λ k. IsKeyCell (cell_at row k)) by × AllByRecursion (λ o. ComparesKeys o.aggregate row) outs

-- Group rows depend on which rows there are, and not on their order.
abbrev pub GroupsOfMultiset : Type 0
GroupsOfMultiset =
    (by : List ℕ) (outs : List GroupOutput) (rows others : List (List Datum)) → IsPermutation rows others
    → AllByRecursion (UsesKeys by outs) rows → group_rows by outs rows ≡ group_rows by outs others

-- What can be accumulated of groups.

abbrev pub first_or_null : List Datum → Datum
first_or_null [] = null
first_or_null (d ∷ ds) = d

-- The least and the greatest are the first of the sorted values.
abbrev pub FirstOfSorted : Type 0
FirstOfSorted = (o : Direction) (ds : List Datum) → first_in o ds ≡ first_or_null (sorted (cell_cmp o) ds)

-- Rows one by one.

-- The rows from which a view is computed are those that it makes of each row,
abbrev pub KeptOneByOne : Type 0
KeptOneByOne =
    (v : View) (side : Side) (rows : List (List Datum)) → filter_map (passing_row v side) rows ≡ view_input v side rows

-- and so are the rows that it shows of them.
abbrev pub ShownOneByOne : Type 0
ShownOneByOne =
    (v : View) (outputs : List Output) (side : Side) (rows : List (List Datum))
    → filter_map (λ row. option_map (shown_row outputs) (passing_row v side row)) rows
    ≡ map (shown_row outputs) (view_input v side rows)
