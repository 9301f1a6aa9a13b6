use Rattle.std.proofs.Common.{◌≡◌, drop}
use Rattle.toml.specs.View.{items_view}
use Rattle.values.specs.Reading.{with_front}
use Rattle.view_config.specs.Outputs.{grouping_column}
use Rattle.view_config.specs.Tree.{each_item}
use Rattle.view_config.proofs.groups.read_each_grouping.Given as goal

abbrev pub invariant-loop-value : goal.invariant-loop-value
invariant-loop-value l =
    with_front l.by.items (each_item (grouping_column l.scope) (items_view (drop l.value-index l.values)))
    ≡ each_item (grouping_column l.scope) (items_view l.values)
