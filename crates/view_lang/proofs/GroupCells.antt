-- Counts, sums and the first of the cells of a group are held by their columns.
use Rattle.std.proofs.Common.{
  ℕ,
  Bool,
  true,
  false,
  not,
  List,
  [],
  ◌∷◌,
  ◌*◌,
  ◌<◌,
  ◌≤◌,
  ◌^◌,
  ℤ,
  pos,
  negsuc,
  neg_ℤ,
  nat_abs,
  ◌≤ℤ◌,
  All,
  cond,
  get_or,
  length,
  map,
  arith,
}
use Rattle.std.proofs.lemmas.Int.{ints}
use Rattle.std.proofs.lemmas.List.{length-map}
use Rattle.std.proofs.lemmas.List.Elements.{All-filter, All-head, All-map, All-tail, All-weaker}
use Rattle.std.proofs.Math.Nat.{pow-le-pow_right}
use Rattle.std.specs.Ordering.{is_gt}
use Rattle.values.specs.ColTypes.{layout_of}
use Rattle.values.specs.Datum.{Datum, null, truth, whole, text, bytes, list, structure, is_null}
use Rattle.values.specs.declared.col_type.ColType.{ColType}
use Rattle.values.specs.declared.col_type.ColType.TheVariants as col
use Rattle.values.specs.declared.layout.IntWidth.{IntWidth}
use Rattle.values.specs.declared.layout.IntWidth.TheVariants as int
use Rattle.values.specs.Layouts.{FitsIn, Holds, IsDecimal, IsNumber, bytes_in}
use Rattle.values.specs.Limits.{max_main_rows}
use Rattle.values.specs.Logical.{NamedType, tree_of, trees_of}
use Rattle.values.specs.Rose.{Rose, node}
use Rattle.view_lang.specs.Cells.{cell_at}
use Rattle.view_lang.specs.Aggregates.{IsAddable, IsSmall, count_type, sum_type}
use Rattle.view_lang.specs.Folds.{first_in, number_in, sum_of, total, values_at}
use Rattle.view_lang.specs.RowOrder.{cell_cmp}
use Rattle.view_lang.specs.TableRules.{type_of}
use Rattle.view_lang.specs.Fields.{field_at, renamed, simple_field}
use Rattle.view_lang.specs.declared.view.Direction.{Direction}
use Rattle.view_lang.proofs.CellFits.{AreFit, Fits, cell_fits, null_fits, renamed_fits}
use Rattle.view_lang.proofs.OwnColumns.{AreSuch, column_at}
use Rattle.view_lang.proofs.InputRows.{few_filtered}

-- Numbers that are added are small.

width_small : (s : Bool) (w : IntWidth) (z : ℤ) → FitsIn s (bytes_in w) z → IsSmall z
width_small true int.Bits8 z fits = (omega (arith, ints, fits.0), omega (arith, ints, fits.1))
width_small true int.Bits16 z fits = (omega (arith, ints, fits.0), omega (arith, ints, fits.1))
width_small true int.Bits32 z fits = (omega (arith, ints, fits.0), omega (arith, ints, fits.1))
width_small true int.Bits64 z fits = (omega (arith, ints, fits.0), omega (arith, ints, fits.1))
width_small false int.Bits8 z fits = (omega (arith, ints, fits.0), omega (arith, ints, fits.1))
width_small false int.Bits16 z fits = (omega (arith, ints, fits.0), omega (arith, ints, fits.1))
width_small false int.Bits32 z fits = (omega (arith, ints, fits.0), omega (arith, ints, fits.1))
width_small false int.Bits64 z fits = (omega (arith, ints, fits.0), omega (arith, ints, fits.1))

zero_small : IsSmall (pos 0)
zero_small = (omega (arith, ints), omega (arith, ints))

number_small : (s : Bool) (w : IntWidth) (d : Datum) → IsNumber s (bytes_in w) d → IsSmall (number_in d)
number_small s w null is = zero_small
number_small s w (whole z) is = width_small s w z is
number_small s w (truth b) is = absurd is
number_small s w (text b) is = absurd is
number_small s w (bytes b) is = absurd is
number_small s w (list es) is = absurd is
number_small s w (structure es) is = absurd is

digits : (p : ℕ) → p ≤ 28 → 10 ^ p ≤ 10 ^ 28
digits p few = pow-le-pow_right (omega arith) few

digits_small : (p : ℕ) (z : ℤ) → p ≤ 28 → nat_abs z < 10 ^ p → IsSmall z
digits_small p (pos k) few is = let most = digits p few in (
  omega (arith, ints, most, is),
  omega (
    arith,
    ints,
    most,
    is,
  ),
)
digits_small p (negsuc k) few is = let most = digits p few in (
  omega (arith, ints, most, is),
  omega (
    arith,
    ints,
    most,
    is,
  ),
)

decimal_small : (p : ℕ) (d : Datum) → p ≤ 28 → IsDecimal p d → IsSmall (number_in d)
decimal_small p null few is = zero_small
decimal_small p (whole z) few is = digits_small p z few is
decimal_small p (truth b) few is = absurd is
decimal_small p (text b) few is = absurd is
decimal_small p (bytes b) few is = absurd is
decimal_small p (list es) few is = absurd is
decimal_small p (structure es) few is = absurd is

pub added_small : (f : Rose NamedType) (d : Datum) → IsAddable (type_of f) → Fits (tree_of f) d → IsSmall (number_in d)
added_small (node f kids) d can fits = by_type f.col_type can fits.held where
  by_type : (t : ColType) → IsAddable t → Holds (node (layout_of t) (trees_of kids)) d → IsSmall (number_in d)
  by_type (col.Int w s) can held = number_small s w d held
  by_type (col.Decimal p s) can held = decimal_small p d can held
  by_type col.Bool can held = absurd can
  by_type (col.Date u) can held = absurd can
  by_type (col.Time u) can held = absurd can
  by_type (col.Timestamp u z) can held = absurd can
  by_type (col.Duration u) can held = absurd can
  by_type (col.Utf8 o) can held = absurd can
  by_type (col.Binary o) can held = absurd can
  by_type (col.FixedSizeBinary w) can held = absurd can
  by_type (col.List o) can held = absurd can
  by_type col.Struct can held = absurd can

-- A sum of small numbers

total_small :
    (ds : List Datum) → All (λ d. IsSmall (number_in d)) ds
    → (neg_ℤ (pos (2 ^ 96 * length ds)) ≤ℤ total ds) × (total ds ≤ℤ pos (2 ^ 96 * length ds))
unfolding total
total_small [] all = (omega (arith, ints), omega (arith, ints))
total_small (d ∷ ds) all =
    let here : IsSmall (number_in d) = All-head (λ d. IsSmall (number_in d)) d ds all in
    let rest = total_small ds (All-tail (λ d. IsSmall (number_in d)) d ds all) in
    (omega (arith, ints, here.0, rest.0), omega (arith, ints, here.1, rest.1))

few_digits : (z : ℤ) (n : ℕ) → n ≤ 2 ^ 24 → neg_ℤ (pos (2 ^ 96 * n)) ≤ℤ z → z ≤ℤ pos (2 ^ 96 * n) → nat_abs z < 10 ^ 38
few_digits (pos k) n few low high = omega (arith, ints, few, low, high)
few_digits (negsuc k) n few low high = omega (arith, ints, few, low, high)

decimal_null : (s : ℕ) (name : List ℕ) → Fits (tree_of (simple_field name (col.Decimal 38 s))) null
decimal_null s name = record { held = tt; light = omega arith }

decimal_sum :
    (s : ℕ) (name : List ℕ) (ds : List Datum) → length ds ≤ 2 ^ 24 → All (λ d. IsSmall (number_in d)) ds
    → Fits (tree_of (simple_field name (col.Decimal 38 s))) (sum_of ds)
decimal_sum s name [] few all = decimal_null s name
decimal_sum s name (d ∷ ds) few all =
    let bounds = total_small (d ∷ ds) all in
    record { held = few_digits (total (d ∷ ds)) (length (d ∷ ds)) few bounds.0 bounds.1; light = omega arith }

pub sum_fits :
    (t : ColType) (name : List ℕ) (ds : List Datum) → IsAddable t → length ds ≤ 2 ^ 24
    → All (λ d. IsSmall (number_in d)) ds
    → Fits (tree_of (simple_field name (sum_type t))) (sum_of ds)
sum_fits (col.Int w s) name ds can few all = decimal_sum 0 name ds few all
sum_fits (col.Decimal p s) name ds can few all = decimal_sum s name ds few all
sum_fits col.Bool name ds can few all = absurd can
sum_fits (col.Date u) name ds can few all = absurd can
sum_fits (col.Time u) name ds can few all = absurd can
sum_fits (col.Timestamp u z) name ds can few all = absurd can
sum_fits (col.Duration u) name ds can few all = absurd can
sum_fits (col.Utf8 o) name ds can few all = absurd can
sum_fits (col.Binary o) name ds can few all = absurd can
sum_fits (col.FixedSizeBinary w) name ds can few all = absurd can
sum_fits (col.List o) name ds can few all = absurd can
sum_fits col.Struct name ds can few all = absurd can

pub count_fits : (name : List ℕ) (n : ℕ) → n ≤ 2 ^ 24 → Fits (tree_of (simple_field name count_type)) (whole (pos n))
count_fits name n few = record { held = (omega (arith, ints, few), omega (arith, ints, few)); light = omega arith }

-- The first of some cells is one of them, or null.

either_fits : (P : Datum → Type 0) (b : Bool) (x y : Datum) → P x → P y → P (cond b x y)
either_fits P true x y px py = px
either_fits P false x y px py = py

first_fits : (P : Datum → Type 0) (o : Direction) (ds : List Datum) → P null → All P ds → P (first_in o ds)
unfolding first_in
first_fits P o [] here all = here
first_fits P o (d ∷ ds) here all =
    either_fits P (is_gt (cell_cmp o d (first_in o ds))) (first_in o ds) d
    (first_fits P o ds here (All-tail P d ds all)) (All-head P d ds all)

-- the tuple of a group holds the grouping columns
abbrev pub IsTuple : List (Rose NamedType) → List ℕ → List Datum → Type 0
IsTuple fs by tuple = (k : ℕ) → k < length by → Fits (tree_of (field_at fs (get_or by k 0))) (cell_at tuple k)

module _ (fs : List (Rose NamedType)) (such : AreSuch fs) (rows : List (List Datum)) (all : All (AreFit fs) rows)
    (few : length rows ≤ max_main_rows) where
  column_fits : (k : ℕ) → k < length fs → All (Fits (tree_of (field_at fs k))) (values_at k rows)
  column_fits k below =
      let P : Datum → Type 0 = Fits (tree_of (field_at fs k)) in
      All-filter (λ d. not (is_null d)) P (map (λ row. cell_at row k) rows)
      (All-map P (λ row. cell_at row k) rows
      (All-weaker (AreFit fs) (λ row. P (cell_at row k)) (λ row fit. cell_fits fs row k fit below) rows all))

  pub few_values : (k : ℕ) → length (values_at k rows) ≤ 2 ^ 24
  few_values k = omega (
    arith,
    few_filtered (λ d. not (is_null d)) (map (λ row. cell_at row k) rows),
    length-map rows (λ row. cell_at row k),
    few,
  )

  pub added_fits : (k : ℕ) → k < length fs → IsAddable (type_of (field_at fs k))
      → All (λ d. IsSmall (number_in d)) (values_at k rows)
  added_fits k below can =
      All-weaker (Fits (tree_of (field_at fs k))) (λ d. IsSmall (number_in d))
      (λ d fits. added_small (field_at fs k) d can fits) (values_at k rows) (column_fits k below)

  pub first_of_column : (o : Direction) (name : List ℕ) (k : ℕ) → k < length fs
      → Fits (tree_of (renamed name (field_at fs k))) (first_in o (values_at k rows))
  first_of_column o name k below =
      renamed_fits name (field_at fs k) (first_in o (values_at k rows))
      (first_fits (Fits (tree_of (field_at fs k))) o (values_at k rows)
      (null_fits (tree_of (field_at fs k)) (column_at fs k such below).slim) (column_fits k below))
