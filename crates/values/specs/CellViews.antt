-- Cells where they lie, as contracts see them.
use Rattle.values.specs.Datum.{Datum, null, truth, whole, text, bytes, list, structure, no_items}
use Rattle.values.specs.declared.cell_view.CellView.{CellView}
use Rattle.values.specs.declared.cell_view.CellView.TheVariants.{
  Null,
  Bool as Booleans,
  Int,
  Utf8,
  Binary,
  List,
  Struct,
}

-- What a view of a cell gives of its value: all of it, but of a list or a struct only that it is one.
abbrev pub shallow : Datum → Datum
shallow null = null
shallow (truth b) = truth b
shallow (whole n) = whole n
shallow (text t) = text t
shallow (bytes b) = bytes b
shallow (list es) = list no_items
shallow (structure es) = structure no_items

-- the value that a view gives
abbrev pub viewed : CellView → Datum
viewed Null = null
viewed (Booleans b) = truth b
viewed (Int n) = whole n
viewed (Utf8 t) = text t.now
viewed (Binary b) = bytes b.now
viewed List = list no_items
viewed Struct = structure no_items
