-- The cells of a column that has an order have keys.
use Rattle.std.proofs.Common.{ℕ, List, refl}
use Rattle.values.specs.ColTypes.{IsSingle, layout_of}
use Rattle.values.specs.Datum.{Datum, list, structure}
use Rattle.values.specs.Layouts.{Holds}
use Rattle.values.specs.Logical.{NamedType, tree_of}
use Rattle.values.specs.Rose.{Rose, Roses, node}
use Rattle.values.specs.declared.col_type.ColType.{ColType}
use Rattle.values.specs.declared.layout.Layout.{Layout}
use Rattle.values.proofs.SingleCells.{no_list, no_structure}
use Rattle.view_lang.specs.Cells.{cell_at}
use Rattle.view_lang.specs.Aggregates.{IsKeyCell}
use Rattle.view_lang.specs.Fields.{IsOrdered, field_at}
use Rattle.view_lang.specs.TableRules.{type_of}
use Rattle.view_lang.proofs.CellFits.{AreFit, cell_fits}

single_key :
    (t : ColType) (kids : Roses Layout) (d : Datum) → IsSingle t → Holds (node (layout_of t) kids) d → IsKeyCell d
single_key t kids (list es) single held = absurd (no_list t kids es single held)
single_key t kids (structure es) single held = absurd (no_structure t kids es single held)
single_key t kids d single held = refl

held_key : (f : Rose NamedType) (d : Datum) → IsSingle (type_of f) → Holds (tree_of f) d → IsKeyCell d
held_key (node f kids) d single held = single_key f.col_type _ d single held

module _ (fs : List (Rose NamedType)) (row : List Datum) (fit : AreFit fs row) where
  pub ordered_key : (k : ℕ) → IsOrdered fs k → IsKeyCell (cell_at row k)
  ordered_key k is = held_key (field_at fs k) (cell_at row k) is.1 (cell_fits fs row k fit is.0).held
