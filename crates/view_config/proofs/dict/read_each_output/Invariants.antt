use Rattle.std.proofs.Common.{◌≡◌, drop}
use Rattle.toml.specs.View.{items_view}
use Rattle.values.specs.Reading.{with_front}
use Rattle.view_config.specs.Dict.{coded_output}
use Rattle.view_config.specs.Tree.{each_item}
use Rattle.view_config.proofs.dict.read_each_output.Given as goal

abbrev pub invariant-loop-value : goal.invariant-loop-value
invariant-loop-value l =
    with_front l.places.items (each_item (coded_output l.shown) (items_view (drop l.value-index l.values)))
    ≡ each_item (coded_output l.shown) (items_view l.values)
