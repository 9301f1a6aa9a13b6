-- What the outputs of views of groups show: over which columns each aggregate is, of which type its cells are, and what
-- it shows of the rows of a group.
use Rattle.std.specs.Prelude.{
  ℕ,
  ◌<◌,
  ◌≤◌,
  ◌^◌,
  ℤ,
  pos,
  neg_ℤ,
  ◌≤ℤ◌,
  true,
  IsSome,
  List,
  Option,
  None,
  Some,
  get_or,
  length,
}
use Rattle.values.specs.Datum.{Datum}
use Rattle.values.specs.Keys.{key_of}
use Rattle.values.specs.Limits.{max_precision}
use Rattle.values.specs.Logical.{NamedType}
use Rattle.values.specs.Rose.{Rose}
use Rattle.values.specs.declared.col_type.ColType.{ColType}
use Rattle.values.specs.declared.col_type.ColType.TheVariants as col
use Rattle.values.specs.declared.layout.IntWidth.TheVariants as int
use Rattle.view_lang.specs.Cells.{cell_at}
use Rattle.view_lang.specs.Fields.{IsColumn, IsOrdered, field_at, renamed, simple_field}
use Rattle.view_lang.specs.Folds.{count_of, distinct, first_in, number_in, sum_of, values_at}
use Rattle.view_lang.specs.Limits.{max_sum_precision}
use Rattle.view_lang.specs.TableRules.{type_of}
use Rattle.view_lang.specs.declared.aggregate.Aggregate.{Aggregate}
use Rattle.view_lang.specs.declared.aggregate.Aggregate.TheVariants as aggregate
use Rattle.view_lang.specs.declared.view.Direction.TheVariants as direction

-- the column of joined rows whose values an aggregate counts, sums or compares, if there is one
abbrev pub column_read : Aggregate → Option ℕ
column_read (aggregate.Key k) = None
column_read aggregate.Count = None
column_read (aggregate.CountOf k) = Some k
column_read (aggregate.Distinct k) = Some k
column_read (aggregate.Sum k) = Some k
column_read (aggregate.Least k) = Some k
column_read (aggregate.Greatest k) = Some k

-- The columns over which it is.

-- A sum is over whole numbers, or over decimals of at most 28 digits: then the sum of 2^24 of them is below 10^38.
abbrev pub IsAddable : ColType → Type 0
IsAddable (col.Int w s) = Unit {0}
IsAddable (col.Decimal p s) = p ≤ max_sum_precision
IsAddable _ = ⊥

-- The columns of these fields can be grouped by `by` and shown so.
abbrev pub IsAggregate : List (Rose NamedType) → List ℕ → Aggregate → Type 0
IsAggregate fields by (aggregate.Key k) = k < length by
IsAggregate fields by aggregate.Count = Unit {0}
IsAggregate fields by (aggregate.CountOf k) = IsColumn fields k
IsAggregate fields by (aggregate.Distinct k) = IsOrdered fields k
IsAggregate fields by (aggregate.Sum k) = IsColumn fields k × IsAddable (type_of (field_at fields k))
IsAggregate fields by (aggregate.Least k) = IsOrdered fields k
IsAggregate fields by (aggregate.Greatest k) = IsOrdered fields k

-- The type of its cells.

abbrev pub count_type : ColType
count_type = col.Int int.Bits64 true

-- A sum has the most digits that a decimal can have, as many of them after the point as the column.
abbrev pub sum_type : ColType → ColType
sum_type (col.Decimal p s) = col.Decimal max_precision s
sum_type t = col.Decimal max_precision 0

abbrev pub aggregate_field : List (Rose NamedType) → List ℕ → List ℕ → Aggregate → Rose NamedType
aggregate_field fields by name (aggregate.Key k) = renamed name (field_at fields (get_or by k 0))
aggregate_field fields by name aggregate.Count = simple_field name count_type
aggregate_field fields by name (aggregate.CountOf k) = simple_field name count_type
aggregate_field fields by name (aggregate.Distinct k) = simple_field name count_type
aggregate_field fields by name (aggregate.Sum k) = simple_field name (sum_type (type_of (field_at fields k)))
aggregate_field fields by name (aggregate.Least k) = renamed name (field_at fields k)
aggregate_field fields by name (aggregate.Greatest k) = renamed name (field_at fields k)

-- What it shows.

-- what it shows of the rows of the group that has this tuple
abbrev pub aggregate_of : Aggregate → List Datum → List (List Datum) → Datum
aggregate_of (aggregate.Key k) tuple rows = cell_at tuple k
aggregate_of aggregate.Count tuple rows = count_of rows
aggregate_of (aggregate.CountOf k) tuple rows = count_of (values_at k rows)
aggregate_of (aggregate.Distinct k) tuple rows = count_of (distinct (values_at k rows))
aggregate_of (aggregate.Sum k) tuple rows = sum_of (values_at k rows)
aggregate_of (aggregate.Least k) tuple rows = first_in direction.Ascending (values_at k rows)
aggregate_of (aggregate.Greatest k) tuple rows = first_in direction.Descending (values_at k rows)

-- What can be accumulated for it.

-- neither a list nor a struct
abbrev pub IsKeyCell : Datum → Type 0
IsKeyCell d = IsSome (key_of d)

-- What is compared of a row is neither a list nor a struct.
abbrev pub ComparesKeys : Aggregate → List Datum → Type 0
ComparesKeys (aggregate.Distinct k) row = IsKeyCell (cell_at row k)
ComparesKeys (aggregate.Least k) row = IsKeyCell (cell_at row k)
ComparesKeys (aggregate.Greatest k) row = IsKeyCell (cell_at row k)
ComparesKeys _ row = Unit {0}

abbrev pub IsSmall : ℤ → Type 0
IsSmall n = (neg_ℤ (pos (2 ^ 96)) ≤ℤ n) × (n ≤ℤ pos (2 ^ 96))

-- the numbers of a summed column are from -2^96 to 2^96, as those of 64 bits or of 28 decimal digits are
abbrev pub IsSummable : Aggregate → List Datum → Type 0
IsSummable (aggregate.Sum k) row = IsSmall (number_in (cell_at row k))
IsSummable _ row = Unit {0}
