-- Why the rows of a batch are refused once their keys are numbered: too many rows, or too heavy ones.
use Rattle.std.specs.Prelude.{◌≡◌, ℕ, ◌+◌, Bool, true, false, ◌||◌, nat_lt, List}
use Rattle.arrays.specs.Checked.{CheckedColumn}
use Rattle.view_lang.specs.Causes.{any_heavy}
use Rattle.view_lang.specs.Limits.{max_appended_rows}
use Rattle.view_lang.specs.declared.unfit.Unfit.TheVariants as unfit
use Rattle.row_keys.specs.declared.faults.EditFault.{EditFault}
use Rattle.row_keys.specs.declared.faults.EditFault.TheVariants as fault
use Rattle.row_keys.specs.Batches.{batch_rows, layouts_in}

-- there would be too many rows: more live ones than `most`, or too many in all
abbrev pub are_many : ℕ → ℕ → ℕ → ℕ → Bool
are_many most live appended rows = nat_lt most (live + rows) || nat_lt max_appended_rows (appended + rows)

abbrev pub RefusesRows : ℕ → ℕ → ℕ → ℕ → List CheckedColumn → EditFault → Type 0
RefusesRows most live appended rows columns (fault.Unfit unfit.TooManyRows) = are_many most live appended rows ≡ true
RefusesRows most live appended rows columns (fault.Unfit unfit.CellTooHeavy) =
    (are_many most live appended rows ≡ false) × (any_heavy (layouts_in columns) (batch_rows rows columns) ≡ true)
RefusesRows most live appended rows columns fault.Memory = Unit {0}
RefusesRows most live appended rows columns _ = ⊥
