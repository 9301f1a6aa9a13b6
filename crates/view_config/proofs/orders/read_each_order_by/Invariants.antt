use Rattle.std.proofs.Common.{◌≡◌, drop}
use Rattle.toml.specs.View.{items_view}
use Rattle.values.specs.Reading.{with_front}
use Rattle.view_lang.specs.OutputsSeen.{outputs_of}
use Rattle.view_lang.specs.ViewColumns.{output_fields}
use Rattle.view_config.specs.Scope.{fields_of}
use Rattle.view_config.specs.Tree.{each_item}
use Rattle.view_config.specs.Views.{order_by_of}
use Rattle.view_config.proofs.orders.read_each_order_by.Given as goal

abbrev pub invariant-loop-value : goal.invariant-loop-value
invariant-loop-value l =
    let reads = order_by_of (output_fields (fields_of l.scope) (outputs_of l.outputs)) in
    with_front l.order.items (each_item reads (items_view (drop l.value-index l.values)))
    ≡ each_item reads (items_view l.values)
