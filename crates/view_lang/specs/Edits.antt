-- Edits of tables: the meaning of the record batches of feeds. Each batch is one edit, also one without rows.
use Rattle.std.specs.Prelude.{ℕ, suc, List, map}
use Rattle.values.specs.Datum.{Datum}
use Rattle.view_lang.specs.Cells.{cell_at}
use Rattle.view_lang.specs.declared.config.Role.{Role}
use Rattle.view_lang.specs.declared.config.Role.TheVariants as role

-- what an edit does to its table
pub data TableEdit : Type 0 where
  -- these rows are added after all live rows
  append : List (List Datum) → TableEdit
  -- the rows with these keys are removed
  retract : List Datum → TableEdit
  -- the rows with the keys of these are removed, and then these are added after all live rows
  put : List (List Datum) → TableEdit

-- an edit of the table of this number: 0 is the main table, and the side tables come after it
pub record Edit : Type 0 where
  pub table : ℕ
  pub change : TableEdit

abbrev pub edit_at : ℕ → TableEdit → Edit
edit_at n e = record { table = n; change = e }

-- the rows of a feed that names keys are keys alone
abbrev pub first_cell : List Datum → Datum
first_cell row = cell_at row 0

-- the number of the table that a feed of this role changes
abbrev pub table_of : Role → ℕ
table_of role.Append = 0
table_of role.Retract = 0
table_of (role.Put side) = suc side
table_of (role.Drop side) = suc side

-- what a batch of these rows does to its table, by the role of its feed
abbrev pub change_of : Role → List (List Datum) → TableEdit
change_of role.Append rows = append rows
change_of role.Retract rows = retract (map first_cell rows)
change_of (role.Put side) rows = put rows
change_of (role.Drop side) rows = retract (map first_cell rows)

-- the edit of a batch of these rows, by the role of its feed
abbrev pub edit_of : Role → List (List Datum) → Edit
edit_of role rows = edit_at (table_of role) (change_of role rows)
