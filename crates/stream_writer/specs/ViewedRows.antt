-- Rows of a table whose cells lie elsewhere, column by column.
use Rattle.std.specs.Prelude.{◌≡◌, ℕ, ◌+◌, ◌^◌, ◌<◌, ◌≤◌, All, List, Vec, length, map, ⊤}
use Rattle.std.specs.declared.alloc.Global.{Global}
use Rattle.values.specs.CellViews.{viewed}
use Rattle.values.specs.Datum.{Datum}
use Rattle.values.specs.Rose.{Rose, node, Roses, none, more, kids_of}
use Rattle.values.specs.declared.cell_view.CellView.{CellView}
use Rattle.values.specs.declared.layout.Layout.{Layout}
use Rattle.schema_meta.specs.Rows.{rows_from, rows_in}
use Rattle.stream_writer.specs.declared.viewed_rows.ViewedRows.{ViewedRows}

-- the cells of columns
abbrev pub viewed_columns : List (Vec CellView Global) → List (List Datum)
viewed_columns columns = map (λ (c : Vec CellView Global). map viewed c.items) columns

-- the first n rows of columns
abbrev pub viewed_rows : ℕ → List (Vec CellView Global) → List (List Datum)
viewed_rows n columns = rows_in n (viewed_columns columns)

-- The slots of this layout, and of these, hold neither lists nor structs with children: it has no children.
abbrev pub IsFlat : Rose Layout → Type 0
IsFlat (node l none) = ⊤
IsFlat (node l (more t ts)) = ⊥

abbrev pub AreFlat : Roses Layout → Type 0
AreFlat none = ⊤
AreFlat (more t ts) = IsFlat t × AreFlat ts

-- the remaining rows
abbrev pub views_left : ViewedRows → List (List Datum)
views_left r = rows_from (viewed_columns r.columns.now) r.from r.left

pub record FitsViews (ls : List (Rose Layout)) (r : ViewedRows) : Type 0 where
  pub many : length r.columns.now ≡ length ls
  pub long : All (λ (c : Vec CellView Global). r.from + r.left ≤ length c.items) r.columns.now
  pub flat : AreFlat (kids_of ls)
  pub small : r.from + r.left < 2 ^ 32
