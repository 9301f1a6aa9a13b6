-- How edits change the rows of their tables, and how that is reverted.
use Rattle.std.specs.Prelude.{◌≡◌, ℕ, zero, suc, All, List, [], None, Result, Ok, Err, length}
use Rattle.values.specs.Logical.{NamedType, trees_of}
use Rattle.values.specs.Rose.{Rose, kids_of}
use Rattle.arrays.specs.Checked.{CheckedColumn}
use Rattle.view_lang.specs.Causes.{cause_of}
use Rattle.view_lang.specs.Config.{Table}
use Rattle.view_lang.specs.Contents.{applied}
use Rattle.view_lang.specs.Edits.{TableEdit, change_of}
use Rattle.view_lang.specs.declared.config.Role.{Role}
use Rattle.row_keys.specs.Batches.{AreAlike, batch_rows, layouts_in}
use Rattle.row_keys.specs.Slots.{
  CanPutBack,
  CanRevert,
  CanUndoPut,
  Slot,
  contents_of,
  put_back,
  put_undone,
  reverted,
}
use Rattle.row_keys.specs.Store.{Refuses}
use Rattle.row_keys.specs.declared.faults.EditFault.{EditFault}
use Rattle.row_keys.specs.declared.table_change.TableChange.{TableChange}
use Rattle.row_keys.specs.declared.table_change.TableChange.TheVariants.{Appended, Put, Retracted}

-- a table's rows once a change of it is reverted
abbrev pub back : TableChange → List Slot → List Slot
back (Appended n) slots = reverted n slots
back (Retracted ns) slots = put_back ns.items slots
back (Put n replaced) slots = put_undone n replaced.items slots

-- the numbers of the retracted rows that are restored where a change is reverted
abbrev pub restores : TableChange → List ℕ
restores (Appended n) = []
restores (Retracted ns) = ns.items
restores (Put n replaced) = replaced.items

-- A change of a table's rows can be reverted.
abbrev pub CanGoBack : Table → TableChange → List Slot → Type 0
CanGoBack t (Appended n) slots = CanRevert n slots
CanGoBack t (Retracted ns) slots = CanPutBack t ns.items slots
CanGoBack t (Put n replaced) slots = CanUndoPut t n replaced.items slots

-- Rows are appended to the main table alone, and put into side tables alone.
abbrev pub IsChangeOf : ℕ → TableChange → Type 0
IsChangeOf zero (Put n replaced) = ⊥
IsChangeOf zero (Appended n) = Unit {0}
IsChangeOf zero (Retracted ns) = Unit {0}
IsChangeOf (suc table) (Appended n) = ⊥
IsChangeOf (suc table) (Retracted ns) = Unit {0}
IsChangeOf (suc table) (Put n replaced) = Unit {0}

-- The columns of a batch: they hold what is declared, and have one cell for each row.
pub record IsBatchOf (fields : List (Rose NamedType)) (columns : List CheckedColumn) (rows : ℕ) : Type 0 where
  pub alike : AreAlike (trees_of (kids_of fields)) (layouts_in columns)
  pub lengths : All (λ c. length c.cells ≡ rows) columns

-- what a batch of these columns does to its table
abbrev pub change_by : Role → List CheckedColumn → ℕ → TableEdit
change_by role columns rows = change_of role (batch_rows rows columns)

-- A table was changed, with a record by which the change is reverted; or the edit is refused, and nothing is changed.
abbrev pub Makes : Table → TableEdit → List Slot → List Slot → Result TableChange EditFault → Type 0
Makes t e old new (Ok c) =
    (cause_of t (contents_of old) e ≡ None) × (contents_of new ≡ applied t e (contents_of old)) × CanGoBack t c new
    × (back c new ≡ old)
Makes t e old new (Err f) = Refuses (cause_of t (contents_of old) e) f × (new ≡ old)
