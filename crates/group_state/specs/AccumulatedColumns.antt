-- The columns that groups accumulate.
use Rattle.std.specs.Prelude.{◌==◌, ◌&&◌, ℕ, Bool, true, false, List}
use Rattle.std.specs.List.{list_any}
use Rattle.group_state.specs.declared.accumulated_columns.AccumulatedColumn.{AccumulatedColumn}
use Rattle.group_state.specs.declared.accumulated_columns.AccumulatorForm.{AccumulatorForm}
use Rattle.group_state.specs.declared.accumulated_columns.AccumulatorForm.TheVariants as kept

abbrev pub same_form : AccumulatorForm → AccumulatorForm → Bool
same_form kept.Total kept.Total = true
same_form kept.Total kept.Values = false
same_form kept.Values kept.Total = false
same_form kept.Values kept.Values = true

-- whether two are the same column in the same form
abbrev pub same_column : AccumulatedColumn → AccumulatedColumn → Bool
same_column c d = (c.column == d.column) && same_form c.form d.form

abbrev pub is_accumulated : List AccumulatedColumn → AccumulatedColumn → Bool
is_accumulated columns k = list_any (λ c. same_column c k) columns

-- a column that is counted or summed
abbrev pub counted : ℕ → AccumulatedColumn
counted k = record { column = k; form = kept.Total }

-- a column whose values are compared
abbrev pub valued : ℕ → AccumulatedColumn
valued k = record { column = k; form = kept.Values }
