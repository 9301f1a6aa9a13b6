-- The aggregates of groups: what groups accumulate for each, and what it shows of that.
use Rattle.std.specs.Prelude.{◌≡◌, ◌==◌, All, Bool, FitsSigned, List, None, Option, Some, false, map, pos, true, ℕ}
use Rattle.std.specs.BTreeMap.{is_at}
use Rattle.std.specs.List.{list_any}
use Rattle.std.specs.Map.{lookup}
use Rattle.std.specs.Option.{option_map}
use Rattle.values.specs.Datum.{Datum, whole}
use Rattle.values.specs.declared.key.Key.{Key}
use Rattle.view_lang.specs.Aggregates.{column_read}
use Rattle.view_lang.specs.Cells.{cell_at}
use Rattle.view_lang.specs.Folds.{total, values_at}
use Rattle.view_lang.specs.Outputs.{GroupOutput}
use Rattle.view_lang.specs.declared.aggregate.Aggregate.{Aggregate}
use Rattle.view_lang.specs.declared.aggregate.Aggregate.TheVariants as aggregate
use Rattle.group_state.specs.GroupCounts.{GroupCounts}
use Rattle.group_state.specs.Grouped.{Grouped}
use Rattle.group_state.specs.AccumulatedColumns.{counted, is_accumulated, valued}
use Rattle.group_state.specs.Keys.{data_of, tuple_cmp}
use Rattle.group_state.specs.Seen.{
  seen_count,
  seen_distinct,
  seen_greatest,
  seen_in,
  seen_least,
  seen_sum,
  tally_at,
}
use Rattle.group_state.specs.declared.accumulated_columns.AccumulatedColumn.{AccumulatedColumn}
use mir.Syntax.{w128}

-- the column that groups accumulate for an output, in the form that the output reads
abbrev pub accumulated_for : Aggregate → Option AccumulatedColumn
accumulated_for (aggregate.Key k) = None
accumulated_for aggregate.Count = None
accumulated_for (aggregate.CountOf k) = Some (counted k)
accumulated_for (aggregate.Distinct k) = Some (valued k)
accumulated_for (aggregate.Sum k) = Some (counted k)
accumulated_for (aggregate.Least k) = Some (valued k)
accumulated_for (aggregate.Greatest k) = Some (valued k)

abbrev pub IsThere : List AccumulatedColumn → Option AccumulatedColumn → Type 0
IsThere columns None = Unit {0}
IsThere columns (Some k) = is_accumulated columns k ≡ true

-- What an output counts, sums or compares is accumulated, in the form that it reads.
abbrev pub IsAccumulated : List AccumulatedColumn → Aggregate → Type 0
IsAccumulated columns a = IsThere columns (accumulated_for a)

-- whether a number is that of a column, if there is one
abbrev pub is_number_of : Option ℕ → ℕ → Bool
is_number_of None k = false
is_number_of (Some j) k = j == k

-- whether an output counts, sums or compares the values of a column
abbrev pub reads : Aggregate → ℕ → Bool
reads a k = is_number_of (column_read a) k

-- whether one of these outputs does
abbrev pub is_read : List GroupOutput → ℕ → Bool
is_read outs k = list_any (λ o. reads o.aggregate k) outs

-- Each of these columns is one that an output reads.
abbrev pub AreReadBy : List GroupOutput → List AccumulatedColumn → Type 0
AreReadBy outs columns = All (λ k. is_read outs k.column ≡ true) columns

-- A sum of these rows fits into 128 bits.
abbrev pub SumFits : Aggregate → List (List Datum) → Type 0
SumFits (aggregate.Sum k) rows = FitsSigned w128 (total (values_at k rows))
SumFits _ rows = Unit {0}

-- what an output shows of a group
abbrev pub seen_cell : List AccumulatedColumn → List Key × GroupCounts → Aggregate → Datum
seen_cell columns e (aggregate.Key k) = cell_at (data_of e.0) k
seen_cell columns e aggregate.Count = whole (pos e.1.rows)
seen_cell columns e (aggregate.CountOf k) = seen_in seen_count (tally_at columns e.1.tallies (counted k))
seen_cell columns e (aggregate.Distinct k) = seen_in seen_distinct (tally_at columns e.1.tallies (valued k))
seen_cell columns e (aggregate.Sum k) = seen_in seen_sum (tally_at columns e.1.tallies (counted k))
seen_cell columns e (aggregate.Least k) = seen_in seen_least (tally_at columns e.1.tallies (valued k))
seen_cell columns e (aggregate.Greatest k) = seen_in seen_greatest (tally_at columns e.1.tallies (valued k))

abbrev pub seen_row : List AccumulatedColumn → List GroupOutput → List Key × GroupCounts → List Datum
seen_row columns outs e = map (λ o. seen_cell columns e o.aggregate) outs

-- the row of the group that a tuple has, if it has one
abbrev pub seen_at : List GroupOutput → Grouped → List Key → Option (List Datum)
seen_at outs g t = option_map (λ c. seen_row g.columns outs (t, c)) (lookup (is_at (tuple_cmp t)) g.groups)
