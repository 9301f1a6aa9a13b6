-- By the cases of an aggregate: what is kept for it is of the column that it reads, and what it shows of that is the
-- definition's, and neither a list nor a struct.
use Rattle.std.proofs.Common.{◌≡◌, refl, ap, sym}
use Rattle.std.proofs.lemmas.Option.{none-some}
use Rattle.std.proofs.lemmas.Bool.{eq-eqb}
use Rattle.std.specs.Prelude.{ℕ, ℤ, zero, suc, ◌≤◌, ◌^◌, List, length, Option, None, Some, pos, true}
use Rattle.std.specs.List.{AllByRecursion}
use Rattle.values.specs.Datum.{Datum, whole}
use Rattle.values.specs.declared.key.Key.{Key}
use Rattle.view_lang.specs.Aggregates.{IsKeyCell, IsSummable, aggregate_of}
use Rattle.view_lang.specs.Folds.{total, values_at}
use Rattle.view_lang.specs.declared.aggregate.Aggregate.{Aggregate}
use Rattle.view_lang.specs.declared.aggregate.Aggregate.TheVariants as aggregate
use Rattle.group_state.specs.AccumulatedColumns.{counted, valued}
use Rattle.group_state.specs.Aggregates.{SumFits, accumulated_for, reads, seen_cell}
use Rattle.group_state.specs.Folds.{first_of, last_of}
use Rattle.group_state.specs.GroupCounts.{GroupCounts}
use Rattle.group_state.specs.Keys.{data_of}
use Rattle.group_state.specs.Reading.{CanRead}
use Rattle.group_state.specs.Rows.{KeepsRows, cells}
use Rattle.group_state.specs.Seen.{
  seen_count,
  seen_distinct,
  seen_greatest,
  seen_in,
  seen_least,
  seen_sum,
  sum_by,
  tally_at,
}
use Rattle.group_state.specs.declared.accumulated_columns.AccumulatedColumn.{AccumulatedColumn}
use Rattle.group_state.specs.declared.tally.Tally.{Tally}
use Rattle.group_state.specs.declared.tally.Tally.TheVariants as tally
use Rattle.group_state.proofs.Distinct.{kept-distinct}
use Rattle.group_state.proofs.FoldReadings.{kept-count, kept-greatest, kept-least}
use Rattle.group_state.proofs.GroupReadings.{cells-keys}
use Rattle.group_state.proofs.KeyData.{data-cell, some-cell}
use Rattle.group_state.proofs.SeenTallies.{sum-is, tally-that, total-by, values-by}
use Rattle.group_state.proofs.Sums.{total-within, within-fits}

abbrev number_in : Option AccumulatedColumn → ℕ
number_in None = zero
number_in (Some k) = k.column

-- The accumulated column of an output is the one that it reads.
pub kept-read : (a : Aggregate) (k : AccumulatedColumn) → Some k ≡ accumulated_for a → reads a k.column ≡ true
kept-read (aggregate.Key i) k is = absurd (none-some k (sym is))
kept-read aggregate.Count k is = absurd (none-some k (sym is))
kept-read (aggregate.CountOf i) k is = eq-eqb i k.column (sym (ap number_in is))
kept-read (aggregate.Distinct i) k is = eq-eqb i k.column (sym (ap number_in is))
kept-read (aggregate.Sum i) k is = eq-eqb i k.column (sym (ap number_in is))
kept-read (aggregate.Least i) k is = eq-eqb i k.column (sym (ap number_in is))
kept-read (aggregate.Greatest i) k is = eq-eqb i k.column (sym (ap number_in is))

-- A sum of few rows fits where their numbers are small.
pub sum-fits-of : (out : Aggregate) (rows : List (List Datum)) → length rows ≤ 2 ^ 24
    → AllByRecursion (IsSummable out) rows → SumFits out rows
sum-fits-of (aggregate.Key k) rows h a = tt
sum-fits-of aggregate.Count rows h a = tt
sum-fits-of (aggregate.CountOf k) rows h a = tt
sum-fits-of (aggregate.Distinct k) rows h a = tt
sum-fits-of (aggregate.Sum k) rows h a = within-fits (length rows) (total (values_at k rows)) h (total-within k rows a)
sum-fits-of (aggregate.Least k) rows h a = tt
sum-fits-of (aggregate.Greatest k) rows h a = tt

-- What an output reads of the accumulated state of rows is the definition's.
pub cell-seen : (columns : List AccumulatedColumn) (e : List Key × GroupCounts) (rows : List (List Datum))
    (a : Aggregate) → KeepsRows columns e.1 rows → CanRead columns rows a
    → seen_cell columns e a ≡ aggregate_of a (data_of e.0) rows
cell-seen columns e rows (aggregate.Key j) k r = refl
cell-seen columns e rows aggregate.Count k r = ap (λ n. whole (pos n)) k.rows_are
cell-seen columns e rows (aggregate.CountOf j) k r =
    total-by seen_count (tally_at columns e.1.tallies (counted j)) (cells j rows) _
    (tally-that columns e.1.tallies rows (counted j) k.tallies_are r.kept) (λ t c. kept-count t (cells j rows) c)
cell-seen columns e rows (aggregate.Distinct j) k r =
    values-by seen_distinct (tally_at columns e.1.tallies (valued j)) (cells j rows) _
    (tally-that columns e.1.tallies rows (valued j) k.tallies_are r.kept)
    (λ es c. kept-distinct es (cells j rows) c (cells-keys j rows r.keys))
cell-seen columns e rows (aggregate.Sum j) k r =
    total-by seen_sum (tally_at columns e.1.tallies (counted j)) (cells j rows) _
    (tally-that columns e.1.tallies rows (counted j) k.tallies_are r.kept)
    (λ t c. sum-is t (cells j rows) c r.sums t.filled refl)
cell-seen columns e rows (aggregate.Least j) k r =
    values-by seen_least (tally_at columns e.1.tallies (valued j)) (cells j rows) _
    (tally-that columns e.1.tallies rows (valued j) k.tallies_are r.kept)
    (λ es c. kept-least es (cells j rows) c (cells-keys j rows r.keys))
cell-seen columns e rows (aggregate.Greatest j) k r =
    values-by seen_greatest (tally_at columns e.1.tallies (valued j)) (cells j rows) _
    (tally-that columns e.1.tallies rows (valued j) k.tallies_are r.kept)
    (λ es c. kept-greatest es (cells j rows) c (cells-keys j rows r.keys))

-- What is shown of groups is neither a list nor a struct.

sum-cell : (n : ℕ) (sum : ℤ) → IsKeyCell (sum_by n sum)
sum-cell zero sum = refl
sum-cell (suc n) sum = refl

count-of : (t : Tally) → IsKeyCell (seen_count t)
count-of (tally.Total t) = refl
count-of (tally.Values es) = refl

distinct-of : (t : Tally) → IsKeyCell (seen_distinct t)
distinct-of (tally.Total t) = refl
distinct-of (tally.Values es) = refl

sum-of : (t : Tally) → IsKeyCell (seen_sum t)
sum-of (tally.Total t) = sum-cell t.filled t.total
sum-of (tally.Values es) = refl

least-of : (t : Tally) → IsKeyCell (seen_least t)
least-of (tally.Total t) = refl
least-of (tally.Values es) = some-cell (first_of es)

greatest-of : (t : Tally) → IsKeyCell (seen_greatest t)
greatest-of (tally.Total t) = refl
greatest-of (tally.Values es) = some-cell (last_of es)

in-cell : (f : Tally → Datum) (o : Option Tally) → ((t : Tally) → IsKeyCell (f t)) → IsKeyCell (seen_in f o)
in-cell f None h = refl
in-cell f (Some t) h = h t

pub one-cell : (columns : List AccumulatedColumn) (e : List Key × GroupCounts) (a : Aggregate)
    → IsKeyCell (seen_cell columns e a)
one-cell columns e (aggregate.Key k) = data-cell e.0 k
one-cell columns e aggregate.Count = refl
one-cell columns e (aggregate.CountOf k) = in-cell seen_count (tally_at columns e.1.tallies (counted k)) count-of
one-cell columns e (aggregate.Distinct k) = in-cell seen_distinct (tally_at columns e.1.tallies (valued k)) distinct-of
one-cell columns e (aggregate.Sum k) = in-cell seen_sum (tally_at columns e.1.tallies (counted k)) sum-of
one-cell columns e (aggregate.Least k) = in-cell seen_least (tally_at columns e.1.tallies (valued k)) least-of
one-cell columns e (aggregate.Greatest k) = in-cell seen_greatest (tally_at columns e.1.tallies (valued k)) greatest-of
