-- What is read from the tallies of a group, whatever the rows are.
use Rattle.std.specs.Prelude.{ℕ, zero, suc, ℤ, pos, cond, List, [], ◌∷◌, length, Option, None, Some, slice_get}
use Rattle.std.specs.Option.{option_and_then}
use Rattle.values.specs.Datum.{Datum, null, whole}
use Rattle.group_state.specs.Folds.{first_of, last_of}
use Rattle.group_state.specs.Keys.{datum_in}
use Rattle.group_state.specs.AccumulatedColumns.{same_column}
use Rattle.group_state.specs.declared.accumulated_columns.AccumulatedColumn.{AccumulatedColumn}
use Rattle.group_state.specs.declared.tally.Tally.{Tally}
use Rattle.group_state.specs.declared.tally.Tally.TheVariants as tally

-- the first index of a column among others, counted from n
abbrev pub index_from : ℕ → List AccumulatedColumn → AccumulatedColumn → Option ℕ
index_from n [] k = None
index_from n (c ∷ cs) k = cond (same_column c k) (Some n) (index_from (suc n) cs k)

abbrev pub tally_at : List AccumulatedColumn → List Tally → AccumulatedColumn → Option Tally
tally_at columns tallies k = option_and_then (slice_get tallies) (index_from 0 columns k)

abbrev pub seen_count : Tally → Datum
seen_count (tally.Total t) = whole (pos t.filled)
seen_count (tally.Values es) = null

abbrev pub seen_distinct : Tally → Datum
seen_distinct (tally.Total t) = null
seen_distinct (tally.Values es) = whole (pos (length es))

-- null where there is nothing to add
abbrev pub sum_by : ℕ → ℤ → Datum
sum_by zero total = null
sum_by (suc n) total = whole total

abbrev pub seen_sum : Tally → Datum
seen_sum (tally.Total t) = sum_by t.filled t.total
seen_sum (tally.Values es) = null

abbrev pub seen_least : Tally → Datum
seen_least (tally.Total t) = null
seen_least (tally.Values es) = datum_in (first_of es)

abbrev pub seen_greatest : Tally → Datum
seen_greatest (tally.Total t) = null
seen_greatest (tally.Values es) = datum_in (last_of es)

abbrev pub seen_in : (Tally → Datum) → Option Tally → Datum
seen_in f None = null
seen_in f (Some t) = f t
