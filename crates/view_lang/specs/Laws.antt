-- What holds of the views of tables whose rows are of their columns' types.
use Rattle.std.specs.Prelude.{◌≡◌, ℕ, suc, ◌≤◌, false, All, IfSome, List, [], length, Option, None, Some}
use Rattle.std.specs.List.{AllByRecursion}
use Rattle.values.specs.Datum.{Datum}
use Rattle.values.specs.Limits.{max_main_rows}
use Rattle.values.specs.Logical.{NamedType}
use Rattle.values.specs.Rose.{Rose}
use Rattle.view_lang.specs.Cells.{cell_at}
use Rattle.view_lang.specs.Causes.{cause_of, has_null, has_repeated}
use Rattle.view_lang.specs.Config.{Table, View}
use Rattle.view_lang.specs.ConfigRules.{IsView}
use Rattle.view_lang.specs.Contents.{Contents, applied, keys_in, no_contents}
use Rattle.view_lang.specs.Edits.{TableEdit}
use Rattle.view_lang.specs.Filter.{Filter}
use Rattle.view_lang.specs.Joined.{Side, looked_up}
use Rattle.view_lang.specs.Outputs.{GroupOutput, groups}
use Rattle.view_lang.specs.Rows.{IsRow}
use Rattle.view_lang.specs.Sums.{CanSum}
use Rattle.view_lang.specs.TableRules.{AreColumns, IsTable}
use Rattle.view_lang.specs.ViewColumns.{view_columns}
use Rattle.view_lang.specs.ViewLaws.{UsesKeys}
use Rattle.view_lang.specs.Aggregates.{IsKeyCell}
use Rattle.view_lang.specs.Views.{output_rows, view_input, view_rows}
use Rattle.view_lang.specs.World.{table_at}
use Rattle.view_lang.specs.declared.view.Lookup.{Lookup}

-- The columns of a view obey the rules of a table's columns.
abbrev pub ViewsAreTables : Type 0
ViewsAreTables =
    (tables : List Table) (v : View) → All IsTable tables → IsView tables v → AreColumns (view_columns tables v)

abbrev pub side_columns : List Table → Option Lookup → List (Rose NamedType)
side_columns tables None = []
side_columns tables (Some l) = (table_at tables (suc l.side)).columns

-- what is looked up for a row, if anything is, is a row of the side table's columns
abbrev pub IsLookedUp : List Table → Option Lookup → Side → List Datum → Type 0
IsLookedUp tables l side row = IfSome (looked_up l side row) (IsRow (side_columns tables l))

-- A view of rows of the main table's columns, which are not too many.
pub record Viewed (tables : List Table) (v : View) (side : Side) (rows : List (List Datum)) : Type 0 where
  pub right : All IsTable tables
  pub view : IsView tables v
  pub held : All (IsRow (table_at tables 0).columns) rows
  pub few : length rows ≤ max_main_rows
  pub looked_up : All (IsLookedUp tables v.lookup side) rows

-- The sums of a view's groups fit their type.
abbrev pub ViewsCanSum : Type 0
ViewsCanSum =
    (tables : List Table) (v : View) (side : Side) (rows : List (List Datum)) → Viewed tables v side rows
    → CanSum v.outputs (view_input v side rows)

-- The rows that a view shows are rows of its columns.
abbrev pub ViewsHaveRows : Type 0
ViewsHaveRows =
    (tables : List Table) (v : View) (side : Side) (rows : List (List Datum)) → Viewed tables v side rows
    → All (IsRow (view_columns tables v)) (view_rows v side rows)

-- They are no more than a table may have.
abbrev pub ViewsHaveFewRows : Type 0
ViewsHaveFewRows =
    (tables : List Table) (v : View) (side : Side) (rows : List (List Datum)) → Viewed tables v side rows
    → length (view_rows v side rows) ≤ max_main_rows

-- What a view groups by, and what it compares of a group's rows, is neither a list nor a struct;
abbrev pub ViewsUseKeys : Type 0
ViewsUseKeys =
    (tables : List Table) (v : View) (by : List ℕ) (outs : List GroupOutput) (having : Option Filter) (side : Side)
    (rows : List (List Datum)) → Viewed tables v side rows → v.outputs ≡ groups by outs having
    → AllByRecursion (UsesKeys by outs) (view_input v side rows)

-- nor is what its rows are ordered by.
abbrev pub ViewsOrderKeys : Type 0
ViewsOrderKeys =
    (tables : List Table) (v : View) (side : Side) (rows : List (List Datum)) → Viewed tables v side rows
    → AllByRecursion (λ row. AllByRecursion (λ o. IsKeyCell (cell_at row o.column)) v.order)
    (output_rows v.outputs (view_input v side rows))

-- Each live row has a key of its own, and none is null.
pub record AreKeyed (t : Table) (c : Contents) : Type 0 where
  pub not_null : has_null (keys_in t c.live) ≡ false
  pub distinct : has_repeated (keys_in t c.live) ≡ false

-- A table without rows is keyed so, and stays so after an edit that fits.
abbrev pub NoRowsAreKeyed : Type 0
NoRowsAreKeyed = (t : Table) → AreKeyed t no_contents

abbrev pub KeysStayDistinct : Type 0
KeysStayDistinct =
    (t : Table) (c : Contents) (e : TableEdit) → AreKeyed t c → cause_of t c e ≡ None → AreKeyed t (applied t e c)
