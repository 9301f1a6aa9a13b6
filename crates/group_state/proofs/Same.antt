-- The state of a group depends only on how many of its rows pass each test.
use Rattle.std.proofs.Common.{◌≡◌, refl, ap, sym, ◌∙◌, arith, ℕ, ◌+◌, List, [], ◌∷◌, length}
use Rattle.std.specs.Prelude.{Bool, true, false, cond, Some, None, Option, filter, count_by, slice_index_or}
use Rattle.std.proofs.lemmas.List.Sums.{length-filter, sum_by-cons}
use Rattle.std.specs.Map.{lookup}
use Rattle.std.specs.BTreeMap.{is_at}
use Rattle.values.specs.Datum.{Datum}
use Rattle.values.specs.declared.key.Key.{Key}
use Rattle.group_state.specs.Keys.{tuple_cmp}
use Rattle.group_state.specs.GroupCounts.{GroupCounts}
use Rattle.group_state.specs.Grouped.{Grouped}
use Rattle.group_state.specs.Cells.{KeepsCells, is_filled, is_value}
use Rattle.group_state.specs.Rows.{cell, cells}
use Rattle.group_state.specs.Tuples.{has_tuple}
use Rattle.std.specs.Int.{int_wrap}
use mir.Syntax.{w128}
use Rattle.view_lang.specs.Folds.{total}
use Rattle.group_state.specs.Counts.{weighted}
use Rattle.group_state.specs.Folds.{keys_in, multiset_of}
use Rattle.group_state.specs.declared.accumulated_columns.AccumulatedColumn.{AccumulatedColumn}
use Rattle.group_state.specs.declared.accumulated_columns.AccumulatorForm.{AccumulatorForm}
use Rattle.group_state.specs.declared.accumulated_columns.AccumulatorForm.TheVariants as kept
use Rattle.group_state.specs.declared.tally.Tally.{Tally}
use Rattle.group_state.specs.declared.tally.Tally.TheVariants as tally
use Rattle.group_state.proofs.FoldReadings.{sum-total}
use Rattle.group_state.proofs.Folds.{
  count-values,
  entries-from_counts,
  multiset-had,
  multiset-present,
  multiset-sorted,
  multiset-sum,
}
use Rattle.group_state.specs.Groups.{Keeps, KeepsAt}

cell_by : (p : Datum → Bool) (t : List Datum → Bool) (j : ℕ) (r : List Datum) (rs : List (List Datum))
    → count_by p (cells j (filter t rs)) ≡ count_by (λ (r : List Datum). cond (t r) (p (cell j r)) false) rs
    → (b : Bool) → count_by p (cells j (cond b (r ∷ filter t rs) (filter t rs)))
    ≡ cond (cond b (p (cell j r)) false) 1 0 + count_by (λ (r : List Datum). cond (t r) (p (cell j r)) false) rs
cell_by p t j r rs h true = sum_by-cons (λ (d : Datum). cond (p d) 1 0) (cell j r) (cells j (filter t rs))
    ∙ ap (λ n. cond (p (cell j r)) 1 0 + n) h
cell_by p t j r rs h false = omega (arith, h)

-- cells of some of the rows, counted by their rows
pub count-cells : (p : Datum → Bool) (t : List Datum → Bool) (j : ℕ) (rows : List (List Datum))
    → count_by p (cells j (filter t rows)) ≡ count_by (λ (r : List Datum). cond (t r) (p (cell j r)) false) rows
count-cells p t j [] = refl
count-cells p t j (r ∷ rs) =
    cell_by p t j r rs (count-cells p t j rs) (t r)
    ∙ sym (sum_by-cons (λ (s : List Datum). cond (cond (t s) (p (cell j s)) false) 1 0) r rs)

nil : {A : Type 0} (xs : List A) → length xs ≡ 0 → xs ≡ []
nil [] h = refl
nil (x ∷ xs) h = absurd (omega arith)

-- the sum of cells is determined by how often each value is among them
total-weighted : (ds : List Datum) → total (filter is_filled ds) ≡ weighted (multiset_of (keys_in ds))
total-weighted ds = sym (sum-total ds) ∙ sym (multiset-sum (keys_in ds))

total-same : (cs ds : List Datum) → ((q : Key) → count_by (is_value q) cs ≡ count_by (is_value q) ds)
    → total (filter is_filled cs) ≡ total (filter is_filled ds)
total-same cs ds h =
    total-weighted cs
    ∙ ap weighted (entries-from_counts (multiset_of (keys_in cs)) (keys_in ds) (multiset-sorted (keys_in cs))
    (multiset-present (keys_in cs))
    (λ q. multiset-had (keys_in cs) q ∙ sym (count-values q cs) ∙ h q ∙ count-values q ds))
    ∙ sym (total-weighted ds)

module _ (xs ys : List (List Datum)) (same : (p : List Datum → Bool) → count_by p xs ≡ count_by p ys) where
  cells-same : (p : Datum → Bool) (t : List Datum → Bool) (j : ℕ) → count_by p (cells j (filter t xs))
      ≡ count_by p (cells j (filter t ys))
  cells-same p t j = count-cells p t j xs ∙ same (λ (r : List Datum). cond (t r) (p (cell j r)) false)
      ∙ sym (count-cells p t j ys)

  length-same : (t : List Datum → Bool) → length (filter t xs) ≡ length (filter t ys)
  length-same t = length-filter t xs ∙ same t ∙ sym (length-filter t ys)

  tally-same : (t : List Datum → Bool) (j : ℕ) (form : AccumulatorForm) (d : Tally)
      → KeepsCells form d (cells j (filter t xs)) → KeepsCells form d (cells j (filter t ys))
  tally-same t j kept.Total (tally.Total n) k = record {
    filled_is = k.filled_is ∙ cells-same is_filled t j;
    total_is =
        k.total_is ∙ ap (int_wrap w128)
        (total-same (cells j (filter t xs)) (cells j (filter t ys)) (λ q. cells-same (is_value q) t j));
  }
  tally-same t j kept.Total (tally.Values es) k = absurd k
  tally-same t j kept.Values (tally.Total n) k = absurd k
  tally-same t j kept.Values (tally.Values es) k = record {
    values_are = λ q. k.values_are q ∙ cells-same (is_value q) t j;
    ascending = k.ascending;
    present = k.present;
  }

  at-same : (columns : List AccumulatedColumn) (t : List Datum → Bool) (o : Option GroupCounts) → KeepsAt columns (filter t xs) o
      → KeepsAt columns (filter t ys) o
  at-same columns t None k = nil (filter t ys) (sym (length-same t) ∙ ap length k)
  at-same columns t (Some g) k = (
    k.0,
    record {
      rows_are = k.1.rows_are ∙ length-same t;
      tallies_are = record {
        count = k.1.tallies_are.count;
        each = λ i c d h. tally-same t (slice_index_or columns i c).column (slice_index_or columns i c).form
            (slice_index_or g.tallies i d) (k.1.tallies_are.each i c d h);
      };
    },
  )

  pub keeps-same : (s : Grouped) → Keeps s xs → Keeps s ys
  keeps-same s k = record {
    groups_are =
        λ t. at-same s.columns (has_tuple s.keys t) (lookup (is_at (tuple_cmp t)) s.groups) (k.groups_are t);
  }
