use Rattle.std.proofs.Common.{◌≡◌, drop}
use Rattle.toml.specs.View.{items_view}
use Rattle.values.specs.Reading.{with_front}
use Rattle.view_config.specs.Outputs.{group_output_of}
use Rattle.view_config.specs.Tree.{each_item}
use Rattle.view_config.proofs.outputs.read_each_group_output.Given as goal

abbrev pub invariant-loop-value : goal.invariant-loop-value
invariant-loop-value l =
    with_front l.outputs.items (each_item (group_output_of l.scope l.by) (items_view (drop l.value-index l.values)))
    ≡ each_item (group_output_of l.scope l.by) (items_view l.values)
