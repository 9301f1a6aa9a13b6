-- Reading group rows from groups.
use Rattle.std.specs.Prelude.{◌≡◌, ℕ, List, [], ◌∷◌, not, filter, Option, None, Some, All}
use Rattle.std.specs.List.{AllByRecursion}
use Rattle.values.specs.Datum.{Datum, is_null}
use Rattle.values.specs.declared.key.Key.{Key}
use Rattle.view_lang.specs.Groups.{group_row}
use Rattle.view_lang.specs.ViewLaws.{UsesKeys}
use Rattle.view_lang.specs.Aggregates.{ComparesKeys}
use Rattle.view_lang.specs.Sums.{AreSummable}
use Rattle.view_lang.specs.Outputs.{GroupOutput}
use Rattle.view_lang.specs.declared.aggregate.Aggregate.{Aggregate}
use Rattle.group_state.specs.declared.tally.Tally.{Tally}
use Rattle.group_state.specs.Cells.{KeepsCells}
use Rattle.group_state.specs.Aggregates.{IsAccumulated, SumFits}
use Rattle.group_state.specs.Keys.{data_of}
use Rattle.group_state.specs.declared.accumulated_columns.AccumulatedColumn.{AccumulatedColumn}
use Rattle.group_state.specs.declared.accumulated_columns.AccumulatorForm.{AccumulatorForm}
use Rattle.group_state.specs.GroupCounts.{GroupCounts}
use Rattle.group_state.specs.Grouped.{Grouped}
use Rattle.group_state.specs.Rows.{KeepsRows}

-- the cells that aren't null
abbrev pub filled : List Datum → List Datum
filled ds = filter (λ d. not (is_null d)) ds

-- a column of the output can be computed from what is stored for these rows
pub record CanRead (columns : List AccumulatedColumn) (rows : List (List Datum)) (out : Aggregate) : Type 0 where
  pub kept : IsAccumulated columns out
  pub sums : SumFits out rows
  pub keys : AllByRecursion (ComparesKeys out) rows

-- there is a tally of this form, and it is that of these cells
abbrev pub IsThat : AccumulatorForm → Option Tally → List Datum → Type 0
IsThat form None cells = ⊥
IsThat form (Some t) cells = KeepsCells form t cells

-- the cells are the group row of any rows of which the group is that
pub record IsRead
    (columns : List AccumulatedColumn) (outs : List GroupOutput) (e : List Key × GroupCounts) (cells : List Datum) :
    Type 0 where
  pub row_is : (rows : List (List Datum)) → KeepsRows columns e.1 rows
      → All (λ o. CanRead columns rows o.aggregate) outs → cells ≡ group_row outs (data_of e.0) rows

abbrev pub AreRead : List AccumulatedColumn → List GroupOutput → List (List Key × GroupCounts) → List (List Datum)
    → Type 0
AreRead columns outs [] [] = Unit {0}
AreRead columns outs [] (r ∷ rs) = ⊥
AreRead columns outs (e ∷ es) [] = ⊥
AreRead columns outs (e ∷ es) (r ∷ rs) = IsRead columns outs e r × AreRead columns outs es rs

-- these columns of the output can be computed for the groups of these rows
pub record CanReadAll
    (by : List ℕ) (columns : List AccumulatedColumn) (outs : List GroupOutput) (rows : List (List Datum)) : Type 0 where
  pub kept : All (λ o. IsAccumulated columns o.aggregate) outs
  pub sums : AreSummable outs rows
  pub keys : AllByRecursion (UsesKeys by outs) rows

-- This holds of the rows of which the groups are those, where these columns of the output can be computed for them.
abbrev pub WhereRead :
    (List (List Datum) → Type 0) → Grouped → List GroupOutput → (List (List Datum) → Type 0) → Type 0
WhereRead keeps s outs P = (rows : List (List Datum)) → keeps rows → CanReadAll s.keys s.columns outs rows → P rows
