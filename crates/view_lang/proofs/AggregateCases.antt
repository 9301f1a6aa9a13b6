-- What holds of each aggregate, by its variants.
use Rattle.std.proofs.Common.{ℕ, pos, List, All, ◌≡◌, ◌≤◌, get_or, length, refl, sym, ap, arith}
use Rattle.std.proofs.lemmas.List.Elements.{All-get_or}
use Rattle.std.proofs.lemmas.List.Sorted.{length_permutation}
use Rattle.std.specs.List.{AllByRecursion}
use Rattle.std.specs.List.Sorted.{IsPermutation}
use Rattle.values.specs.Datum.{Datum, whole}
use Rattle.values.specs.Limits.{max_main_rows}
use Rattle.values.specs.Logical.{NamedType, tree_of}
use Rattle.values.specs.Rose.{Rose}
use Rattle.view_lang.specs.Aggregates.{ComparesKeys, IsAggregate, IsSummable, aggregate_field, aggregate_of}
use Rattle.view_lang.specs.Cells.{cell_at}
use Rattle.view_lang.specs.ConfigRules.{IsText}
use Rattle.view_lang.specs.Fields.{IsOrdered, field_at}
use Rattle.view_lang.specs.Folds.{distinct, values_at}
use Rattle.view_lang.specs.TableRules.{type_of}
use Rattle.view_lang.specs.declared.aggregate.Aggregate.{Aggregate}
use Rattle.view_lang.specs.declared.aggregate.Aggregate.TheVariants as aggregate
use Rattle.view_lang.specs.declared.view.Direction.TheVariants as direction
use Rattle.view_lang.proofs.CellFits.{AreFit, Fits, cell_fits, renamed_fits}
use Rattle.view_lang.proofs.Distinct.{few_distinct}
use Rattle.view_lang.proofs.GroupCells.{
  IsTuple,
  added_fits,
  added_small,
  count_fits,
  few_values,
  first_of_column,
  sum_fits,
}
use Rattle.view_lang.proofs.OrderedCells.{ordered_key}
use Rattle.view_lang.proofs.OwnColumns.{
  AreSuch,
  IsColumn,
  column_at,
  column_renamed,
  count_column,
  sum_column,
  type_within,
}
use Rattle.view_lang.proofs.PermutedCells.{distinct_same, first_same, sum_same, total_same, value_keys, values_same}

-- Its column is one that a table may have.

module _ (fs : List (Rose NamedType)) (a : AreSuch fs) where
  pub aggregate_such :
      (by : List ℕ) (name : List ℕ) (x : Aggregate) → All (IsOrdered fs) by → IsText name → IsAggregate fs by x
      → IsColumn (aggregate_field fs by name x)
  aggregate_such by name (aggregate.Key k) ordered text is =
      column_renamed (field_at fs (get_or by k 0)) name text
      (column_at fs (get_or by k 0) a (All-get_or (IsOrdered fs) by k 0 is ordered).0)
  aggregate_such by name aggregate.Count ordered text is = count_column name text
  aggregate_such by name (aggregate.CountOf k) ordered text is = count_column name text
  aggregate_such by name (aggregate.Distinct k) ordered text is = count_column name text
  aggregate_such by name (aggregate.Sum k) ordered text is =
      sum_column name (type_of (field_at fs k)) text is.1 (type_within (field_at fs k) (column_at fs k a is.0).within)
  aggregate_such by name (aggregate.Least k) ordered text is =
      column_renamed (field_at fs k) name text (column_at fs k a is.0)
  aggregate_such by name (aggregate.Greatest k) ordered text is =
      column_renamed (field_at fs k) name text (column_at fs k a is.0)

-- Its value of the rows of a group is held by its column.

module _ (fs : List (Rose NamedType)) (such : AreSuch fs) (rows : List (List Datum)) (all : All (AreFit fs) rows)
    (few : length rows ≤ max_main_rows) where
  pub aggregate_fits :
      (by : List ℕ) (name : List ℕ) (x : Aggregate) (tuple : List Datum) → IsAggregate fs by x → IsTuple fs by tuple
      → Fits (tree_of (aggregate_field fs by name x)) (aggregate_of x tuple rows)
  aggregate_fits by name (aggregate.Key k) tuple is held =
      renamed_fits name (field_at fs (get_or by k 0)) (cell_at tuple k) (held k is)
  aggregate_fits by name aggregate.Count tuple is held = count_fits name (length rows) few
  aggregate_fits by name (aggregate.CountOf k) tuple is held =
      count_fits name (length (values_at k rows)) (few_values fs such rows all few k)
  aggregate_fits by name (aggregate.Distinct k) tuple is held =
      count_fits name (length (distinct (values_at k rows))) (omega (
        arith,
        few_distinct (values_at k rows),
        few_values fs such rows all few k,
      ))
  aggregate_fits by name (aggregate.Sum k) tuple is held =
      sum_fits (type_of (field_at fs k)) name (values_at k rows) is.1 (few_values fs such rows all few k)
      (added_fits fs such rows all few k is.0 is.1)
  aggregate_fits by name (aggregate.Least k) tuple is held = first_of_column fs such rows all few _ name k is.0
  aggregate_fits by name (aggregate.Greatest k) tuple is held = first_of_column fs such rows all few _ name k is.0

-- The numbers that it adds are small.

pub summable :
    (fs : List (Rose NamedType)) (by : List ℕ) (x : Aggregate) (row : List Datum) → IsAggregate fs by x → AreFit fs row
    → IsSummable x row
summable fs by (aggregate.Key k) row is fit = tt
summable fs by aggregate.Count row is fit = tt
summable fs by (aggregate.CountOf k) row is fit = tt
summable fs by (aggregate.Distinct k) row is fit = tt
summable fs by (aggregate.Sum k) row is fit =
    added_small (field_at fs k) (cell_at row k) is.1 (cell_fits fs row k fit is.0)
summable fs by (aggregate.Least k) row is fit = tt
summable fs by (aggregate.Greatest k) row is fit = tt

-- The cells that it compares have keys.

module _ (fs : List (Rose NamedType)) (row : List Datum) (fit : AreFit fs row) where
  pub compared_keys : (by : List ℕ) (x : Aggregate) → IsAggregate fs by x → ComparesKeys x row
  compared_keys by (aggregate.Distinct k) is = ordered_key fs row fit k is
  compared_keys by (aggregate.Least k) is = ordered_key fs row fit k is
  compared_keys by (aggregate.Greatest k) is = ordered_key fs row fit k is
  compared_keys by x is = tt

-- It is the same of a permutation of the rows.

pub aggregate_same :
    (out : Aggregate) (t : List Datum) (rows others : List (List Datum)) → IsPermutation rows others
    → AllByRecursion (ComparesKeys out) rows
    → aggregate_of out t rows ≡ aggregate_of out t others
aggregate_same (aggregate.Key k) t rows others same all = refl
aggregate_same aggregate.Count t rows others same all =
    ap (λ n. whole (pos n)) (sym (length_permutation rows others same))
aggregate_same (aggregate.CountOf k) t rows others same all =
    ap (λ n. whole (pos n)) (sym (length_permutation _ _ (values_same k rows others same)))
aggregate_same (aggregate.Distinct k) t rows others same all =
    ap (λ n. whole (pos n)) (distinct_same _ _ (values_same k rows others same))
aggregate_same (aggregate.Sum k) t rows others same all =
    sum_same _ _ (sym (length_permutation _ _ (values_same k rows others same)))
    (total_same _ _ (values_same k rows others same))
aggregate_same (aggregate.Least k) t rows others same all =
    first_same direction.Ascending _ _ (values_same k rows others same) (value_keys k rows all)
aggregate_same (aggregate.Greatest k) t rows others same all =
    first_same direction.Descending _ _ (values_same k rows others same) (value_keys k rows all)
