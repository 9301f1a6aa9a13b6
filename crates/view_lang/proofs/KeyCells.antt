-- The cells that a view compares have keys.
use Rattle.std.proofs.Common.{ℕ, All, List, subst}
use Rattle.std.specs.List.{AllByRecursion}
use Rattle.std.proofs.lemmas.List.Elements.{All-weaker, recursion_from_All}
use Rattle.values.specs.Datum.{Datum}
use Rattle.values.specs.Logical.{NamedType}
use Rattle.values.specs.Rose.{Rose}
use Rattle.view_lang.specs.Cells.{cell_at}
use Rattle.view_lang.specs.ConfigRules.{AreOutputs, IsGroupOutput}
use Rattle.view_lang.specs.Aggregates.{ComparesKeys, IsKeyCell}
use Rattle.view_lang.specs.Fields.{IsOrdered}
use Rattle.view_lang.specs.Laws.{ViewsOrderKeys, ViewsUseKeys}
use Rattle.view_lang.specs.Outputs.{GroupOutput, groups}
use Rattle.view_lang.specs.ViewColumns.{joined_columns, view_columns}
use Rattle.view_lang.specs.ViewLaws.{UsesKeys}
use Rattle.view_lang.specs.Views.{output_rows, view_input}
use Rattle.view_lang.specs.declared.view.OrderBy.{OrderBy}
use Rattle.view_lang.proofs.CellFits.{AreFit}
use Rattle.view_lang.proofs.Columns.{joined_such}
use Rattle.view_lang.proofs.InputRows.{input_few, input_fits}
use Rattle.view_lang.proofs.ViewRows.{outputs_fit}
use Rattle.view_lang.proofs.OrderedCells.{ordered_key}
use Rattle.view_lang.proofs.AggregateCases.{compared_keys}

module _ (fs : List (Rose NamedType)) (row : List Datum) (fit : AreFit fs row) where
  row_uses :
      (by : List ℕ) (outs : List GroupOutput) → All (IsOrdered fs) by → All (IsGroupOutput fs by) outs
      → UsesKeys by outs row
  row_uses by outs ordered all = (
    recursion_from_All (λ k. IsKeyCell (cell_at row k)) by
        (All-weaker (IsOrdered fs) (λ k. IsKeyCell (cell_at row k)) (ordered_key fs row fit) by ordered),
    recursion_from_All (λ o. ComparesKeys o.aggregate row) outs
        (All-weaker (IsGroupOutput fs by) (λ o. ComparesKeys o.aggregate row)
        (λ o is. compared_keys fs row fit by o.aggregate is.1) outs all),
  )

  row_orders :
      (order : List OrderBy) → All (λ o. IsOrdered fs o.column) order
      → AllByRecursion (λ o. IsKeyCell (cell_at row o.column)) order
  row_orders order all =
      recursion_from_All (λ o. IsKeyCell (cell_at row o.column)) order
      (All-weaker (λ o. IsOrdered fs o.column) (λ o. IsKeyCell (cell_at row o.column))
      (λ o is. ordered_key fs row fit o.column is) order all)

pub views_use_keys : ViewsUseKeys
views_use_keys tables v by outs having side rows is same =
    let fs : List (Rose NamedType) = joined_columns tables v.lookup in
    let right : AreOutputs fs (groups by outs having) = subst (AreOutputs fs) same is.view.outputs in
    recursion_from_All (UsesKeys by outs) (view_input v side rows)
    (All-weaker (AreFit fs) (UsesKeys by outs) (λ row fit. row_uses fs row fit by outs right.0 right.1)
    (view_input v side rows) (input_fits tables v side rows is))

pub views_order_keys : ViewsOrderKeys
views_order_keys tables v side rows is =
    let fs : List (Rose NamedType) = view_columns tables v in
    let P : List Datum → Type 0 = λ row. AllByRecursion (λ o. IsKeyCell (cell_at row o.column)) v.order in
    let made : List (List Datum) = output_rows v.outputs (view_input v side rows) in
    recursion_from_All P made
    (All-weaker (AreFit fs) P (λ row fit. row_orders fs row fit v.order is.view.order) made
    (outputs_fit (joined_columns tables v.lookup) (joined_such tables v.lookup is.right is.view.lookup)
    (view_input v side rows) (input_fits tables v side rows is) (input_few tables v side rows is) v.outputs
    is.view.outputs))
